-- A number that was reserved is above those of the last commits of its nodes.
use Rattle.std.proofs.Common.{◌≤◌, ◌∙◌, ℕ, List, sym, subst, arith}
use Rattle.sfs_image.specs.Super.{Layout}
use Rattle.stamp_table.specs.declared.event.Event.{Event}
use Rattle.slot_laws.specs.declared.label.Label.{Label}
use Rattle.slot_laws.specs.Labels.{BoxPast, first_past, past_from}
use Rattle.slot_laws.specs.Lasts.{NamesLast, held_by_none, held_last_by}
use Rattle.slot_laws.specs.Nodes.{last_seen}
use Rattle.slot_laws.specs.Rules.{MayFrom}
use Rattle.slot_laws.proofs.Lasts.{seen_some}
use Rattle.slot_laws.proofs.NodesTold.{may_parts, nodes_fit, reservings_knew}
use Rattle.end_laws.specs.Runs.{ReservedAreAbove}

-- what the labels come to before a reserving
abbrev past_of : Layout → ℕ → List (Event Label) → BoxPast
past_of layout moment front = past_from layout front (first_past moment)

-- the last commit of a node that has ended has a number that was given
low : (layout : Layout) (before moment : ℕ) (front : List (Event Label)) → MayFrom layout before front (first_past moment) → (node last : ℕ)
    → NamesLast (past_of layout moment front).done node last → last ≤ (past_of layout moment front).commits
low layout before moment front may node last (held_by_none none zero_there) = omega (arith, zero_there)
low layout before moment front may node last (held_last_by commit is number) =
    let given = (nodes_fit layout before moment front may).ended commit is.among in omega (arith, given, number)

pub reserved_are_above : ReservedAreAbove
reserved_are_above layout before moment log one made told may number sees node concerned =
    let all_may = subst (λ (l : List (Event Label)). MayFrom layout before l (first_past moment)) told.whole may in
    let front_may = (may_parts layout before told.front _ (first_past moment) all_may).0 in
    let knew = reservings_knew layout before moment log one told may in
    let seen = seen_some (last_seen one.seen.items node) (sym (sees.holds node) ∙ concerned) in
    let few = low layout before moment told.front front_may node seen.0 (knew.knew node seen.0 seen.1) in
    let next = knew.next in
    let last = sees.last node seen.0 seen.1 in
    omega (arith, few, next, last, number)
