-- The own log has room for what a rename logs.
use Rattle.std.proofs.Common.{◌≡◌, ℕ, ◌+◌, ◌*◌, ◌-◌, ◌^◌, ◌<◌, ◌≤◌, Bool, true, false, cond, nat_eq, List, [], ◌∷◌, ◌++◌, length, filter, Option, Some, None, refl, sym, ap, subst, ◌∙◌, arith}
use borrow.Author.Tests.{eqb-true}
use Rattle.std.specs.Prelude.{All}
use Rattle.std.proofs.lemmas.List.Elements.{All-nil, All-cons, All-append}
use Rattle.tree_laws.specs.declared.changes.Change.{Change}
use Rattle.tree_laws.specs.declared.changes.Act.TheVariants.{Add}
use Rattle.tree_laws.specs.Tree.{TreeState, kind_if}
use Rattle.tree_laws.specs.Changes.{other_side}
use Rattle.tree_laws.specs.Logged.{is_logged_in, log_entry}
use Rattle.tree_laws.specs.History.{IsLegal}
use Rattle.mem_cells.specs.Log.{log_place, IsInOrder}
use Rattle.mem_cells.specs.Part.{changes_kept, room_kept}
use Rattle.mem_cells.proofs.Order.{nothing_in_order, in_order-push}
use Rattle.mem_values.specs.declared.cell.PartCell.{PartCell}
use Rattle.mem_values.specs.Account.{Account}
use Rattle.mem_values.specs.Stands.{StandsPart}
use Rattle.mem_calls.specs.Parts.{HasRoomFor}
use Rattle.mem_calls.proofs.PartKept.{room_for_one}
use Rattle.mem_rename.specs.declared.shifts.Shift.{Shift}
use Rattle.mem_rename.specs.Shifts.{gone_entry, gone_by, shift_logged}

module _ (first : TreeState) (account : Account) (core : ℕ) (p : PartCell) (stood : StandsPart first account core p) (legal : IsLegal first account.calls)
    (few : p.log.entries < 2 ^ 64 - 1)
    (shift : Shift) (name to_name : List ℕ) (number : ℕ) (above : List ℕ) (number_is : number ≡ length account.calls) (old : 3 ≤ room_kept p.log shift.from.0)
    (new : 3 ≤ room_kept p.log shift.to.0) where
  abbrev Behind : Change → Type 0
  Behind change = All (λ other. log_place other ≤ log_place change) (changes_kept p.log change.dir.0)

  abbrev goes : Change
  goes = gone_entry number shift.from.0 name shift.child shift.child_is_directory shift.to.0

  abbrev comes : Change
  comes = log_entry number shift.to.0 to_name shift.child.0 (kind_if shift.child_is_directory) Add (other_side shift.to.0 shift.from.0) above

  behind_one : (change : Change) → change.stamp.0 ≡ number → 3 ≤ room_kept p.log change.dir.0 → All Behind (change ∷ [])
  behind_one change stamp room = (room_for_one first account core p change stood legal (stamp ∙ number_is) (omega (arith, room)) few).behind

  behind_gone : (there : Option Rattle.sfs_base.specs.declared.numbers.NodeId.NodeId) → All Behind (gone_by shift to_name number there)
  behind_gone None = All-nil Behind
  behind_gone (Some there) = behind_one (gone_entry number shift.to.0 to_name there shift.there_is_directory shift.from.0) refl new

  two_behind : All Behind (goes ∷ comes ∷ [])
  two_behind = All-append Behind (goes ∷ []) (comes ∷ []) (behind_one goes refl old) (behind_one comes refl new)

  order_two : (front : List Change) → IsInOrder front → All (λ other. log_place other ≤ 2 * number + 0) front → IsInOrder (front ++ goes ∷ comes ∷ [])
  order_two front order low = subst IsInOrder (Rattle.std.proofs.Common.append_assoc front (goes ∷ []) (comes ∷ []))
      (in_order-push (front ++ goes ∷ []) comes (in_order-push front goes order low)
      (All-append (λ other. log_place other ≤ log_place comes) front (goes ∷ []) (more front low)
      (All-cons (λ other. log_place other ≤ log_place comes) goes [] (omega arith) (All-nil (λ other. log_place other ≤ log_place comes)))))
    where
      more : (l : List Change) → All (λ other. log_place other ≤ 2 * number + 0) l → All (λ other. log_place other ≤ 2 * number + 1) l
      more l all i d within = let le = all i d within in omega (arith, le)

  order_gone : (there : Option Rattle.sfs_base.specs.declared.numbers.NodeId.NodeId) → IsInOrder (gone_by shift to_name number there ++ goes ∷ comes ∷ [])
  order_gone None = order_two [] nothing_in_order (All-nil (λ other. log_place other ≤ 2 * number + 0))
  order_gone (Some there) = order_two (gone_entry number shift.to.0 to_name there shift.there_is_directory shift.from.0 ∷ [])
      (in_order-push [] (gone_entry number shift.to.0 to_name there shift.there_is_directory shift.from.0) nothing_in_order
      (All-nil (λ other. log_place other ≤ 2 * number + 0)))
      (All-cons (λ other. log_place other ≤ 2 * number + 0) (gone_entry number shift.to.0 to_name there shift.there_is_directory shift.from.0) [] (omega arith)
      (All-nil (λ other. log_place other ≤ 2 * number + 0)))

  room_two : (a b : Bool) (r : ℕ) → (a ≡ true → 3 ≤ r) → (b ≡ true → 3 ≤ r) → (front : ℕ) → (front ≤ cond b 1 0) → front + (cond a 1 0 + cond b 1 0) ≤ r
  room_two true b r one two front le = let three = one refl in by b le
    where
      by : (b : Bool) → front ≤ cond b 1 0 → front + (1 + cond b 1 0) ≤ r
      by true le = let three = one refl in omega (arith, three, le)
      by false le = let three = one refl in omega (arith, three, le)
  room_two false true r one two front le = let three = two refl in omega (arith, three, le)
  room_two false false r one two front le = omega (arith, le)

  counted : (d : ℕ) (x : Change) (l : List Change) → length (filter (is_logged_in d) (x ∷ l)) ≡ cond (nat_eq x.dir.0 d) 1 0 + length (filter (is_logged_in d) l)
  counted d x l = by (nat_eq x.dir.0 d)
    where
      by : (b : Bool) → length (cond b (x ∷ filter (is_logged_in d) l) (filter (is_logged_in d) l)) ≡ cond b 1 0 + length (filter (is_logged_in d) l)
      by true = omega arith
      by false = omega arith

  room_gone : (d : ℕ) (there : Option Rattle.sfs_base.specs.declared.numbers.NodeId.NodeId)
      → length (filter (is_logged_in d) (gone_by shift to_name number there ++ goes ∷ comes ∷ [])) ≤ room_kept p.log d
  room_gone d None =
      let one = counted d goes (comes ∷ []) in
      let two = counted d comes [] in
      let le = room_two (nat_eq shift.from.0 d) (nat_eq shift.to.0 d) (room_kept p.log d) (at_old d) (at_new d) 0 (omega arith) in
      omega (arith, one, two, le)
    where
      at_old : (d : ℕ) → nat_eq shift.from.0 d ≡ true → 3 ≤ room_kept p.log d
      at_old d is = subst (λ x. 3 ≤ room_kept p.log x) (eqb-true _ _ is) old

      at_new : (d : ℕ) → nat_eq shift.to.0 d ≡ true → 3 ≤ room_kept p.log d
      at_new d is = subst (λ x. 3 ≤ room_kept p.log x) (eqb-true _ _ is) new
  room_gone d (Some there) =
      let front = counted d (gone_entry number shift.to.0 to_name there shift.there_is_directory shift.from.0) (goes ∷ comes ∷ []) in
      let one = counted d goes (comes ∷ []) in
      let two = counted d comes [] in
      let le = room_two (nat_eq shift.from.0 d) (nat_eq shift.to.0 d) (room_kept p.log d) (at_old d) (at_new d) (cond (nat_eq shift.to.0 d) 1 0)
      (omega arith) in
      omega (arith, front, one, two, le)
    where
      at_old : (d : ℕ) → nat_eq shift.from.0 d ≡ true → 3 ≤ room_kept p.log d
      at_old d is = subst (λ x. 3 ≤ room_kept p.log x) (eqb-true _ _ is) old

      at_new : (d : ℕ) → nat_eq shift.to.0 d ≡ true → 3 ≤ room_kept p.log d
      at_new d is = subst (λ x. 3 ≤ room_kept p.log x) (eqb-true _ _ is) new

  pub room_for_shift : HasRoomFor (shift_logged shift name to_name number above) p
  room_for_shift = record {
    room = λ d. room_gone d shift.there;
    order = order_gone shift.there;
    behind = All-append Behind (gone_by shift to_name number shift.there) (goes ∷ comes ∷ []) (behind_gone shift.there) two_behind;
    few = few;
  }
