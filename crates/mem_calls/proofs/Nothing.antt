-- A call that changes nothing.
use Rattle.std.proofs.Common.{◌≡◌, ◌<◌, ◌≤◌, ◌-◌, ◌^◌, ℕ, ◌==◌, nat_eq, List, [], ◌∷◌, ◌++◌, length, Option, Some, None, IsSome, ◌⊎◌, inl, inr, refl, sym, ap, subst, ◌∙◌, eq-eqb, arith, ⊎_elim}
use borrow.Author.Tests.{eqb-true}
use Rattle.std.specs.Option.{option_and_then}
use Rattle.std.specs.Prelude.{All}
use Rattle.std.proofs.lemmas.Bool.{cases_Bool, both_ways}
use Rattle.std.proofs.lemmas.List.Elements.{All-nil}
use Rattle.disk_nodes.specs.OldKept.{OldKept}
use Rattle.tree_laws.specs.Tree.{TreeState, made_by}
use Rattle.tree_laws.specs.declared.changes.Change.{Change}
use Rattle.tree_laws.specs.declared.call.Call.{Call}
use Rattle.tree_laws.specs.declared.reply.Reply.{Reply}
use Rattle.tree_laws.specs.declared.history.Entry.{Entry}
use Rattle.tree_laws.specs.History.{tree_after}
use Rattle.tree_laws.specs.Logged.{logged_by}
use Rattle.tree_laws.specs.Footprints.{DoesNothing}
use Rattle.tree_laws.specs.Verdict.{Verdict, verdict, answered}
use Rattle.tree_laws.proofs.Histories.{tree_after-push}
use Rattle.mem_cells.specs.Part.{IsAddedTo}
use Rattle.mem_cells.specs.Log.{log_place}
use Rattle.mem_cells.proofs.Order.{nothing_in_order}
use Rattle.stamp_table.specs.declared.event.Event.{Event}
use Rattle.stamp_table.specs.declared.event.Event.TheVariants.{Called}
use Rattle.stamp_table.specs.declared.held.HeldCell.{HeldCell}
use Rattle.stamp_table.specs.Events.{calls_in}
use Rattle.stamp_table.specs.Hand.{places_of}
use Rattle.stamp_table.specs.Table.{Stamps, Stands, EachFrom, with_value}
use Rattle.stamp_table.proofs.Calling.{calls_snoc}
use Rattle.stamp_table.proofs.Replacing.{same_places}
use Rattle.mem_values.specs.Start.{FileHand, FileState}
use Rattle.mem_values.specs.declared.cell.Cell.{Cell}
use Rattle.mem_values.specs.declared.cell.PartCell.{PartCell}
use Rattle.mem_values.specs.declared.cell_id.CellId.{CellId}
use Rattle.mem_values.specs.declared.cell_id.CellId.TheVariants as id
use Rattle.mem_values.specs.declared.fact.Fact.{Fact}
use Rattle.mem_values.specs.Places.{cell_place, IsCell}
use Rattle.mem_values.specs.Account.{account_of}
use Rattle.mem_values.specs.Logs.{entry_logged}
use Rattle.mem_values.specs.Stands.{StandsForCell, StandsAt}
use Rattle.mem_values.specs.Facts.{IsLawfulLog}
use Rattle.mem_values.specs.Touches.{KeepsCell}
use Rattle.mem_values.proofs.Kept.{same_tree}
use Rattle.mem_calls.specs.Table.{IsFileTable}
use Rattle.mem_calls.specs.Held.{value_held, as_part, part_held, HoldsPart}
use Rattle.mem_calls.specs.Working.{IsWorking}
use Rattle.mem_calls.specs.Parts.{HasRoomFor, MayTake, TakesEntry}
use Rattle.mem_calls.proofs.Finished.{of_changed, held_mid, view_held_mid, core_mid, part_stood, part_home, few_entries}
use Rattle.mem_calls.proofs.Stamped as stamped

pub some_first : {X Y : Type 0} (f : X → Option Y) (o : Option X) → IsSome (option_and_then f o) → IsSome o
some_first f None some = some
some_first f (Some x) some = refl

-- a log has room for no changes
pub no_changes : (part : PartCell) → part.log.entries < 2 ^ 64 - 1 → HasRoomFor [] part
no_changes part few = record {
  room = λ directory. omega arith;
  order = nothing_in_order;
  behind = All-nil (λ (change : Change). All (λ other. log_place other ≤ log_place change) (Rattle.mem_cells.specs.Part.changes_kept part.log change.dir.0));
  few = few;
}

pub does_nothing : (v : Verdict) (reply : Reply) → v ≡ answered reply → DoesNothing v
does_nothing v reply is = record { effect = ap (λ (w : Verdict). w.effect) is; makes = ap (λ (w : Verdict). w.makes) is }

-- it keeps each cell but the own log
pub nothing_keeps : (nodes : ℕ) (tree : TreeState) (core : ℕ) (c : Call) (which : CellId) → DoesNothing (verdict tree core c)
    → (cell_place nodes (id.Part (record { 0 = core })) ≡ cell_place nodes which → ⊥) → KeepsCell tree core c which
nothing_keeps nodes tree core c id.Lock nothing apart = inr (nothing, refl)
nothing_keeps nodes tree core c (id.Bucket node number) nothing apart = inr (nothing, refl)
nothing_keeps nodes tree core c (id.File node) nothing apart = inr (nothing, refl)
nothing_keeps nodes tree core c (id.Pending node) nothing apart = inr (nothing, refl)
nothing_keeps nodes tree core c (id.Part other) nothing apart = ⊎_elim
    (λ same. absurd (apart (ap (λ (n : ℕ). cell_place nodes (id.Part (record { 0 = n }))) (eqb-true core other.0 same))))
    (λ other_core. inl other_core)
    (cases_Bool (core == other.0))

-- a core that holds its own log holds each cell that is not kept
pub nothing_or_part : (nodes : ℕ) (hand : FileHand) (tree : TreeState) (c : Call) (which : CellId) → DoesNothing (verdict tree hand.view.core c)
    → HoldsPart nodes hand
    → KeepsCell tree hand.view.core c which ⊎ IsSome (value_held nodes hand.held which)
nothing_or_part nodes hand tree c which nothing part = ⊎_elim
    (λ same. inr (subst (λ p. IsSome
    (Rattle.std.specs.Prelude.option_map (λ (h : HeldCell Cell). h.value) (Rattle.stamp_table.specs.Table.cell_at p hand.held)))
    (eqb-true (cell_place nodes (id.Part (record { 0 = hand.view.core }))) (cell_place nodes which) same)
    (some_first as_part (value_held nodes hand.held (id.Part (record { 0 = hand.view.core }))) part)))
    (λ other. inl (nothing_keeps nodes tree hand.view.core c which nothing
    (λ same. both_ways (nat_eq (cell_place nodes (id.Part (record { 0 = hand.view.core }))) (cell_place nodes which)) other (eq-eqb _ _ same))))
    (cases_Bool (nat_eq (cell_place nodes (id.Part (record { 0 = hand.view.core }))) (cell_place nodes which)))

module _ (given : ℕ → Option OldKept) (t : FileState) (nodes : ℕ) (before : FileHand) (table : IsFileTable t nodes) (work : IsWorking given t before)
    (c : Call) (reply : Reply) (number : ℕ) (mid : FileHand) (stamps : Stamps (IsLawfulLog given) (StandsAt given) c reply before number mid)
    (due : verdict (stamped.tree given t nodes before table work c reply number mid stamps) before.view.core c ≡ answered reply) where
  abbrev S : TreeState
  S = stamped.tree given t nodes before table work c reply number mid stamps

  abbrev log : List (Event Fact)
  log = stamped.log given t nodes before table work c reply number mid stamps

  abbrev entry : Entry
  entry = stamped.entry given t nodes before table work c reply number mid stamps

  verdict_is : verdict S before.view.core c ≡ answered reply
  verdict_is = due

  nothing : DoesNothing (verdict S before.view.core c)
  nothing = does_nothing (verdict S before.view.core c) reply verdict_is

  logs_none : entry_logged S entry ≡ []
  logs_none = ap (λ (v : Verdict). logged_by S before.view.core number v.effect v.makes) verdict_is

  pub has_room : length (calls_in before.view.mine) ≤ 2 ^ 50 → MayTake nodes [] mid
  has_room few part held = no_changes part (few_entries given t nodes before table work c reply number mid stamps part (own_part part held) few)
    where
      own_part : (p : PartCell) → part_held nodes mid.held mid.view.core ≡ Some p → part_held nodes before.held before.view.core ≡ Some p
      own_part p is = (λ i. part_held nodes (sym (held_mid given t nodes before table work c reply number mid stamps) i)
          (sym (core_mid given t nodes before table work c reply number mid stamps) i)) ∙ is

  module _ (final : FileHand) (takes : TakesEntry nodes [] mid final) where
    pub final_is : record final { held = mid.held } ≡ mid
    final_is = ap (λ (h : FileHand). record h { held = mid.held }) takes.frame

    held_is : final.held ≡ with_value (cell_place nodes (id.Part (record { 0 = before.view.core }))) takes.value before.held
    held_is = ap (λ (h : FileHand). h.held) takes.frame
        ∙ (λ i. with_value (cell_place nodes (id.Part (record { 0 = core_mid given t nodes before table work c reply number mid stamps i }))) takes.value
        (held_mid given t nodes before table work c reply number mid stamps i))

    was : part_held nodes before.held before.view.core ≡ Some takes.part
    was = (λ i. part_held nodes (sym (held_mid given t nodes before table work c reply number mid stamps) i)
        (sym (core_mid given t nodes before table work c reply number mid stamps) i)) ∙ takes.was

    made : takes.next.made ≡ made_by (tree_after before.view.first (calls_in (log ++ Called entry ∷ []))) before.view.core
    made = takes.made ∙ ((part_stood given t nodes before table work c reply number mid stamps takes.part was).made
        ∙ ap (λ (x : TreeState). made_by x before.view.core)
        (sym (ap (tree_after before.view.first) (calls_snoc log entry)
        ∙ (tree_after-push before.view.first (calls_in log) entry ∙ same_tree S before.view.core c nothing))))

    each : (which : CellId) (value : Cell) → IsCell nodes (length t.first.made) which → value_held nodes final.held which ≡ Some value
        → StandsForCell given before.view.first (account_of (log ++ Called entry ∷ [])) which value
    each which value is_cell is = elim
        (of_changed nodes (length t.first.made) which (id.Part (record { 0 = before.view.core })) value takes.value before.held is_cell work.core
        (ap (λ (l : List (HeldCell Cell)). value_held nodes l which) (sym held_is) ∙ is)) [
          | inl own ↦
              subst (λ (z : CellId × Cell). StandsForCell given before.view.first (account_of (log ++ Called entry ∷ [])) z.0 z.1)
              (λ i. (sym own.0 i, sym own.1 i))
              (part_home given t nodes before table work c reply number mid stamps takes.part takes.next takes.value was takes.is
              (subst (λ l. IsAddedTo takes.part.log l takes.next.log) (sym logs_none) takes.log) made)
          | inr other ↦
              stamped.kept given t nodes before table work c reply number mid stamps which value is_cell other.1
              (nothing_keeps nodes S before.view.core c which nothing other.0)
        ]

    pub same_count : length final.held ≡ length before.held
    same_count =
        let places = ap (λ (l : List (HeldCell Cell)). length (places_of l)) held_is in
        let same = ap (λ (l : List ℕ). length l) (same_places (cell_place nodes (id.Part (record { 0 = before.view.core }))) before.held takes.value) in
        let one = Rattle.std.proofs.lemmas.List.length-map final.held (λ (h : HeldCell Cell). h.place) in
        let two = Rattle.std.proofs.lemmas.List.length-map before.held (λ (h : HeldCell Cell). h.place) in
        omega (arith, places, same, one, two)

    pub goes_home : EachFrom 0 (Stands (IsLawfulLog given) (StandsAt given) final.view) final.held
    goes_home = stamped.home given t nodes before table work c reply number mid stamps final (ap (λ (h : FileHand). h.view) takes.frame)
        (view_held_mid given t nodes before table work c reply number mid stamps)
        (ap (λ (l : List (HeldCell Cell)). places_of l) held_is
        ∙ same_places (cell_place nodes (id.Part (record { 0 = before.view.core }))) before.held takes.value) each
