-- The own log of a core, and the changes for which it has room.
use Rattle.std.proofs.Common.{◌≡◌, ◌<◌, ◌≤◌, ◌+◌, ◌*◌, ◌-◌, ◌^◌, ℕ, suc, Bool, true, false, cond, ◌==◌, List, [], ◌∷◌, ◌++◌, length, filter, Option, Some, None, sym, ap, subst, ◌∙◌, arith, ⊎_elim}
use borrow.Author.Tests.{eqb-true}
use Rattle.std.specs.Prelude.{All, if◌then◌else◌}
use Rattle.std.proofs.lemmas.Bool.{cases_Bool}
use Rattle.std.proofs.lemmas.List.Elements.{All-nil, All-cons, All-append, All-filter}
use Rattle.disk_nodes.specs.OldKept.{OldKept}
use Rattle.sfs_base.specs.declared.numbers.Kind.{Kind}
use Rattle.tree_laws.specs.declared.changes.Change.{Change}
use Rattle.tree_laws.specs.declared.history.Entry.{Entry}
use Rattle.tree_laws.specs.Tree.{TreeState, row_of}
use Rattle.tree_laws.specs.Effect.{Effect, Stays, Adds, Removes, Moves, Edits}
use Rattle.tree_laws.specs.Logged.{is_addition, is_logged_in, logged_by, logged_replaced}
use Rattle.tree_laws.specs.Verdict.{verdict}
use Rattle.tree_laws.specs.History.{tree_after_entry, IsLegalFrom, IsLegal}
use Rattle.tree_laws.specs.Merged.{is_core}
use Rattle.mem_cells.specs.Log.{log_place, is_from}
use Rattle.mem_cells.specs.Part.{changes_kept, mark_kept, room_kept, IsSamePart}
use Rattle.mem_cells.proofs.Order.{nothing_in_order, in_order-push}
use Rattle.mem_values.specs.declared.cell.Cell.{Cell}
use Rattle.mem_values.specs.declared.cell.Cell.TheVariants as cell
use Rattle.mem_values.specs.declared.cell.PartCell.{PartCell}
use Rattle.mem_values.specs.declared.cell_id.CellId.TheVariants as id
use Rattle.mem_values.specs.Account.{Account}
use Rattle.mem_values.specs.Logs.{entry_logged, own_logged}
use Rattle.mem_values.specs.Stands.{IsCapped, KeepFrom, StandsPart, StandsForCell}
use Rattle.mem_calls.specs.Held.{as_part}
use Rattle.mem_calls.specs.Parts.{HasRoomFor}

module _ (given : ℕ → Option OldKept) (first : TreeState) (account : Account) (core : ℕ) where
  pub part_of_value : (value : Cell) (p : PartCell) → as_part value ≡ Some p → StandsForCell given first account (id.Part (record { 0 = core })) value
      → StandsPart first account core p
  part_of_value (cell.Part part) p is stood = let same : part.value ≡ p = cc (is) in subst (StandsPart first account core) same stood
  part_of_value (cell.Bucket bucket) p is stood = absurd stood
  part_of_value (cell.Lock lock) p is stood = absurd stood
  part_of_value (cell.Pending pending) p is stood = absurd stood
  part_of_value (cell.File file) p is stood = absurd stood

  pub value_of_part : (value : Cell) (p : PartCell) → as_part value ≡ Some p → StandsPart first account core p
      → StandsForCell given first account (id.Part (record { 0 = core })) value
  value_of_part (cell.Part part) p is stands = let same : part.value ≡ p = cc (is) in subst (StandsPart first account core) (sym same) stands
  value_of_part (cell.Bucket bucket) p is stands = absurd (cc (is))
  value_of_part (cell.Lock lock) p is stands = absurd (cc (is))
  value_of_part (cell.Pending pending) p is stands = absurd (cc (is))
  value_of_part (cell.File file) p is stands = absurd (cc (is))

  -- a log with the same changes stands for the same
  pub same_part_stands : (p q : PartCell) → IsSamePart p.log q.log → q.made ≡ p.made → StandsPart first account core p → StandsPart first account core q
  same_part_stands p q same made stood = record {
    left = record {
      changes_left = λ d. same.logs.changes d
          ∙ (stood.left.changes_left d ∙ ap (λ m. filter (is_from m) (filter (is_logged_in d) (own_logged first core account.calls)))
          (sym (same.logs.marks d)));
      entries_counted = same.entries ∙ stood.left.entries_counted;
    };
    made = made ∙ stood.made;
    kept = record {
      capped = λ d. subst (IsCapped account d) (sym (same.logs.marks d)) (stood.kept.capped d);
      trimmed = λ commit d among trimmed member. subst (KeepFrom commit.stamp) (sym (same.logs.changes d)) (stood.kept.trimmed commit d among trimmed member);
    };
  }

-- what an entry logs has its stamp
module _ (tree : TreeState) (core stamp bound : ℕ) (below : stamp < bound) where
  abbrev IsBelow : Change → Type 0
  IsBelow change = change.stamp.0 < bound

  replaced_below : (p q : ℕ) (m : List ℕ) (row : Option ℕ) → All IsBelow (logged_replaced tree stamp p q m row)
  replaced_below p q m None = All-nil IsBelow
  replaced_below p q m (Some there) = All-cons IsBelow _ [] below (All-nil IsBelow)

  two_more : (changes : List Change) (x y : Change) → All IsBelow changes → IsBelow x → IsBelow y → All IsBelow (changes ++ x ∷ y ∷ [])
  two_more changes x y all one two = All-append IsBelow changes (x ∷ y ∷ []) all (All-cons IsBelow x (y ∷ []) one (All-cons IsBelow y [] two (All-nil IsBelow)))

  logged_below : (effect : Effect) (makes : Option Kind) → All IsBelow (logged_by tree core stamp effect makes)
  logged_below Stays makes = All-nil IsBelow
  logged_below (Adds d n c) makes = All-cons IsBelow _ [] below (All-nil IsBelow)
  logged_below (Removes d n c) makes = All-cons IsBelow _ [] below (All-nil IsBelow)
  logged_below (Moves p n q m c) makes = two_more _ _ _ (replaced_below p q m (row_of tree q m)) below below
  logged_below (Edits file edit) makes = All-nil IsBelow

own_below : (first : TreeState) (core stamp : ℕ) (calls : List Entry) → IsLegalFrom first stamp calls
    → All (λ (change : Change). change.stamp.0 < stamp + length calls) (own_logged first core calls)
own_below first core stamp [] legal = All-nil (λ (change : Change). change.stamp.0 < stamp + 0)
own_below first core stamp (e ∷ calls) legal =
    let end : ℕ = stamp + suc (length calls) in
    let P : Change → Type 0 = λ (change : Change). change.stamp.0 < end in
    All-append P (if is_core core e then entry_logged first e else []) (own_logged (tree_after_entry first e) core calls)
    (by (is_core core e))
    (subst (λ n. All (λ (change : Change). change.stamp.0 < n) (own_logged (tree_after_entry first e) core calls)) (omega arith)
    (own_below (tree_after_entry first e) core (suc stamp) calls legal.1))
  where
    by : (b : Bool) → All (λ (change : Change). change.stamp.0 < stamp + suc (length calls)) (if b then entry_logged first e else [])
    by true = logged_below first e.core.0 e.stamp.0 (stamp + suc (length calls)) (let s = legal.0.stamped in omega (arith, s))
        (verdict first e.core.0 e.call).effect (verdict first e.core.0 e.call).makes
    by false = All-nil (λ (change : Change). change.stamp.0 < stamp + suc (length calls))

rising : (s t : ℕ) (a b : Bool) → s < t → 2 * s + cond a 1 0 ≤ 2 * t + cond b 1 0
rising s t true true less = omega arith
rising s t true false less = omega arith
rising s t false true less = omega arith
rising s t false false less = omega arith

sooner : (change : Change) (changes : List Change) → All (λ (other : Change). other.stamp.0 < change.stamp.0) changes
    → All (λ other. log_place other ≤ log_place change) changes
sooner change changes all i d within = rising _ change.stamp.0 _ (is_addition change.act) (all i d within)

-- The own log has room for one change at a stamp behind its calls.
pub room_for_one : (first : TreeState) (account : Account) (core : ℕ) (p : PartCell) (change : Change) → StandsPart first account core p
    → IsLegal first account.calls → change.stamp.0 ≡ length account.calls
    → 1 ≤ room_kept p.log change.dir.0 → p.log.entries < 2 ^ 64 - 1 → HasRoomFor (change ∷ []) p
room_for_one first account core p change stood legal stamp room few = record {
  room = λ d. ⊎_elim
      (λ (here : (change.dir.0 == d) ≡ true). let same : change.dir.0 ≡ d = eqb-true change.dir.0 d here in
      rw here (subst (λ x. 1 ≤ room_kept p.log x) same room))
      (λ (other : (change.dir.0 == d) ≡ false). rw other (omega arith))
      (cases_Bool (change.dir.0 == d));
  order = in_order-push [] change nothing_in_order (All-nil (λ other. log_place other ≤ log_place change));
  behind = All-cons (λ (x : Change). All (λ other. log_place other ≤ log_place x) (changes_kept p.log x.dir.0)) change []
      (sooner change (changes_kept p.log change.dir.0)
      (subst (All (λ (other : Change). other.stamp.0 < change.stamp.0)) (sym (stood.left.changes_left change.dir.0))
      (All-filter (is_from (mark_kept p.log change.dir.0)) (λ (other : Change). other.stamp.0 < change.stamp.0) _
      (All-filter (is_logged_in change.dir.0) (λ (other : Change). other.stamp.0 < change.stamp.0) _
      (subst (λ n. All (λ (other : Change). other.stamp.0 < n) (own_logged first core account.calls))
      (let zero : 0 + length account.calls ≡ change.stamp.0 = omega (arith, stamp) in zero) (own_below first core 0 account.calls legal))))))
      (All-nil (λ (x : Change). All (λ other. log_place other ≤ log_place x) (changes_kept p.log x.dir.0)));
  few = few;
}
