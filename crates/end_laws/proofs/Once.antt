-- A turn of an fsync with no other before it stands at one place of the record; and labels add turns at its end.
-- no turn of these is of the fsync with a stamp
use Rattle.std.proofs.Common.{◌≢◌, ◌≡◌, ◌++◌, ◌∷◌, ◌∙◌, if◌then◌else◌, ℕ, List, [], subst, nat_eq, true, refl, inl, ap, sym, inr, append-nil, append_assoc, Option, nat_lt, Some, None}
use Rattle.std.proofs.lemmas.List.Elements.{filter-append}
use Rattle.sfs_base.specs.declared.numbers.SpaceKind.TheVariants.{Inodes, Blocks}
use Rattle.sfs_base.proofs.BasicNumbers.{same_number}
use Rattle.sfs_image.specs.Super.{Layout}
use Rattle.space_map.specs.declared.grant.Need.{Need}
use Rattle.space_map.specs.declared.fault.SpaceFault.{SpaceFault}
use Rattle.space_map.specs.declared.fault.SpaceFault.TheVariants.{NoSpace}
use Rattle.space_map.specs.Space.{Space, shortage}
use Rattle.space_map.specs.Pool.{free_count}
use Rattle.tree_laws.specs.declared.turns.Turn.{Turn}
use Rattle.cut_laws.specs.Rules.{IsOneOf}
use Rattle.cut_laws.proofs.Listed.{to_filter}
use Rattle.turn_laws.specs.Ways.{own_turns}
use Rattle.merge_laws.proofs.Lists.{heads_are}
use Rattle.stamp_table.specs.declared.event.Event.{Event}
use Rattle.stamp_table.specs.declared.event.Event.TheVariants.{Called, Told}
use Rattle.stamp_table.specs.Rule.{entries_by}
use Rattle.stamp_table.specs.Events.{event_core}
use Rattle.slot_laws.specs.declared.label.Label.{Label}
use Rattle.slot_laws.specs.Labels.{BoxPast, after_label, past_from, OwnTold, own_label, nothing_told}
use Rattle.slot_laws.specs.declared.label.Label.TheVariants as label
use Rattle.close_laws.specs.Own.{OwnOwed, OwnStand, own_owed, StandBeside, nothing_owed}

abbrev pub NoneOf : ℕ → List Turn → Type 0
NoneOf stamp turns = (turn : Turn) → IsOneOf turns turn → turn.stamp.0 ≢ stamp

pub none_of : (stamp : ℕ) (turns : List Turn) → own_turns stamp turns ≡ [] → NoneOf stamp turns
none_of stamp turns none turn among same =
    subst (λ l. IsOneOf l turn) none
    (to_filter (λ (t : Turn). nat_eq t.stamp.0 stamp) turns turn among (subst (λ n. nat_eq turn.stamp.0 n ≡ true) same (same_number turn.stamp.0)))

pub split_once : (one other : List Turn) (turn : Turn) (back tail : List Turn) → one ++ turn ∷ back ≡ other ++ turn ∷ tail → NoneOf turn.stamp.0 one
    → NoneOf turn.stamp.0 other → one ≡ other
split_once [] [] turn back tail e none also = refl
split_once [] (first ∷ other) turn back tail e none also =
    absurd (also first (inl refl) (ap (λ (t : Turn). t.stamp.0) (sym (heads_are turn first back (other ++ turn ∷ tail) e).0)))
split_once (first ∷ one) [] turn back tail e none also =
    absurd (none first (inl refl) (ap (λ (t : Turn). t.stamp.0) (heads_are first turn (one ++ turn ∷ back) tail e).0))
split_once (first ∷ one) (next ∷ other) turn back tail e none also =
    let same = heads_are first next (one ++ turn ∷ back) (other ++ turn ∷ tail) e in
    let rest = split_once one other turn back tail same.1 (λ t among. none t (inr among)) (λ t among. also t (inr among)) in
    λ i. same.0 i ∷ rest i

module _ (layout : Layout) where
  label_adds : (core : ℕ) (fact : Label) (past : BoxPast) → (more : List Turn) × ((after_label layout core fact past).turns ≡ past.turns ++ more)
  label_adds core label.Took past = ([], sym (append-nil past.turns))
  label_adds core label.Gave past = ([], sym (append-nil past.turns))
  label_adds core (label.Noted turn) past = (turn ∷ [], refl)
  label_adds core (label.Reserved commit seen grant) past = ([], sym (append-nil past.turns))
  label_adds core (label.Returned commit) past = ([], sym (append-nil past.turns))
  label_adds core (label.Began filling commit node stamp blocks inodes) past = ([], sym (append-nil past.turns))
  label_adds core (label.Filled slot piece done) past = ([], sym (append-nil past.turns))
  label_adds core (label.Synced now) past = ([], sym (append-nil past.turns))
  label_adds core (label.Opened slot done cut opened) past = (cut ∷ opened ∷ [], refl)
  label_adds core (label.Settled slot turn) past = (turn ∷ [], refl)
  label_adds core (label.Learned turn) past = ([], sym (append-nil past.turns))
  label_adds core (label.Placed slot n done) past = ([], sym (append-nil past.turns))
  label_adds core (label.Shut slot done) past = ([], sym (append-nil past.turns))
  label_adds core (label.Idled slot) past = ([], sym (append-nil past.turns))
  label_adds core (label.Empty commit cut opened durable) past = (cut ∷ opened ∷ durable ∷ [], refl)

  pub turns_go_on : (log : List (Event Label)) (past : BoxPast) → (more : List Turn) × ((past_from layout log past).turns ≡ past.turns ++ more)
  turns_go_on [] past = ([], sym (append-nil past.turns))
  turns_go_on (Called entry ∷ log) past = turns_go_on log past
  turns_go_on (Told core fact ∷ log) past =
      let first = label_adds core.0 fact past in
      let rest = turns_go_on log (after_label layout core.0 fact past) in
      (first.0 ++ rest.0, rest.1 ∙ (ap (λ l. l ++ rest.0) first.1 ∙ append_assoc past.turns first.0 rest.0))

-- what stands beside labels stands beside a front of them
own_begins : (stamps : ℕ → ℕ) (told : OwnTold) (own : OwnOwed) (log more : List (Event Label)) → OwnStand stamps told own (log ++ more)
    → OwnStand stamps told own log
own_begins stamps told own [] more stands = tt
own_begins stamps told own (Called entry ∷ log) more stands = own_begins stamps told own log more stands
own_begins stamps told own (Told core fact ∷ log) more stands =
    (stands.0, own_begins stamps (own_label fact told) (own_owed fact own) log more stands.1)

pub stand_begins : (stamps : ℕ → ℕ) (log more : List (Event Label)) → StandBeside stamps (log ++ more) → StandBeside stamps log
stand_begins stamps log more stand core =
    own_begins stamps nothing_told nothing_owed (entries_by event_core core log) (entries_by event_core core more)
    (subst (OwnStand stamps nothing_told nothing_owed) (filter-append (λ (e : Event Label). nat_eq (event_core e) core) log more) (stand core))

-- maps that count the same have the same shortage
abbrev short_of : Need → ℕ → ℕ → Option SpaceFault
short_of need inodes blocks =
    if nat_lt inodes need.inodes then Some (NoSpace Inodes need.inodes inodes) else
    if nat_lt blocks need.blocks then Some (NoSpace Blocks need.blocks blocks) else None

pub same_shortage : (one other : Space) (need : Need) → free_count one.inodes ≡ free_count other.inodes → free_count one.blocks ≡ free_count other.blocks
    → shortage one need ≡ shortage other need
same_shortage one other need inodes blocks = λ i. short_of need (inodes i) (blocks i)
