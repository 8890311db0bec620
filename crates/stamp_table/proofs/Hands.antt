-- The cells that a core holds.
use Rattle.std.proofs.Common.{◌≡◌, ℕ, ◌<◌, List, [], ◌∷◌, ◌++◌, map, reverse, Option, Some, None, sym, refl, ap, ◌∙◌, subst, arith, inl, ⊎_elim}
use Rattle.std.proofs.lemmas.List.{reverse-append, map-append}
use Rattle.atomic_table.specs.Table.{Me, rest}
use Rattle.atomic_table.specs.declared.shared.Seat.{Seat}
use Rattle.tree_laws.specs.Tree.{TreeState}
use Rattle.tree_laws.specs.declared.history.Entry.{Entry}
use Rattle.stamp_table.specs.declared.event.Event.{Event}
use Rattle.stamp_table.specs.declared.held.HeldCell.{HeldCell}
use Rattle.stamp_table.specs.Rule.{Has}
use Rattle.stamp_table.specs.Steps.{tail, SawMore}
use Rattle.stamp_table.specs.Ascending.{LiesAbove, Falls, AreBelow}
use Rattle.stamp_table.specs.Placing.{IsOneToOne, by_given, at_slots}
use Rattle.stamp_table.specs.Events.{event_core, is_call, IsLawful, stands_for, SeatView, StandsFrom, tree_view, places_shown}
use Rattle.stamp_table.proofs.Seats.{has_place, saw_down}
use Rattle.stamp_table.specs.Hand.{IsCore, places_of, empty_slots}
use Rattle.stamp_table.specs.Answered.{AreCallsOf}
use Rattle.stamp_table.specs.Table.{TakesCell, GoesHome}

-- the place of a last cell comes first of the places that fall
pub places_snoc : {C : Type 0} (cells : List (HeldCell C)) (cell : HeldCell C)
    → reverse (places_of (cells ++ cell ∷ [])) ≡ cell.place ∷ reverse (places_of cells)
places_snoc cells cell = ap reverse (map-append (λ c. c.place) cells (cell ∷ [])) ∙ reverse-append (places_of cells) (cell.place ∷ [])

-- a place above others that fall is none of them
pub above_all : (place p : ℕ) (places : List ℕ) → LiesAbove place places → Falls places → Has places p → p < place
above_all place p [] above falls has = absurd has
above_all place p (next ∷ places) above falls has =
    ⊎_elim (λ here. let lt = above in omega (arith, lt, here))
    (λ there. let lt = above in let r = above_all next p places falls.0 falls.1 there in omega (arith, lt, r)) has

pub held_once : (place : ℕ) (places : List ℕ) → Falls (place ∷ places) → Has places place → ⊥
held_once place places falls has = let lt = above_all place place places falls.0 falls.1 has in omega (arith, lt)

-- the value of a first slot
abbrev first_value : {C : Type 0} → List (ℕ × Option C) → Option C
first_value [] = None
first_value (slot ∷ slots) = slot.1

module _ {C X G : Type 0} (lawful : G → TreeState → List (Event X) → Type 0) (stands : G → TreeState → List (Event X) → ℕ → C → Type 0) where
  -- a value that stands for something is there
  pub is_there : (start : TreeState × G) (log : List (Event X)) (place : ℕ) (value : Option C) → StandsFrom stands start log place value
      → (x : C) × (value ≡ Some x) × stands start.1 start.0 log place x
  is_there start log place None stood = absurd stood
  is_there start log place (Some x) stood = (x, refl, stood)

  -- a cell that was taken has a value
  pub taken_there : (place : ℕ) (me m : Me (Option C) (SeatView G X)) → TakesCell lawful stands place me m
      → (value : C) × (m.1 ≡ (place, Some value) ∷ rest m.1)
  taken_there place me m took = let v = is_there me.0.first m.0.seen place took.value.0 took.value.2 in
      (v.0, took.value.1 ∙ (ap (λ (x : Option C). (place, x) ∷ me.1) v.1 ∙ ap (λ (cs : List (ℕ × Option C)). (place, Some v.0) ∷ rest cs) (sym took.value.1)))

  -- the value that was brought out is the one that was taken
  pub brought : (place : ℕ) (me m : Me (Option C) (SeatView G X)) (value : C) → TakesCell lawful stands place me m
      → m.1 ≡ (place, Some value) ∷ rest m.1
      → (rest m.1 ≡ me.1) × stands me.0.first.1 me.0.first.0 m.0.seen place value
  brought place me m value took is = let v = is_there me.0.first m.0.seen place took.value.0 took.value.2 in
      let same : Some value ≡ Some v.0 = sym (ap first_value is) ∙ (ap first_value took.value.1 ∙ v.1) in
      let one : v.0 ≡ value = cc (same) in
      (ap rest took.value.1, subst (λ x. stands me.0.first.1 me.0.first.0 m.0.seen place x) one v.2)

-- what is left of a list of slots is what is left of their places
tail_map : (place_at : ℕ → ℕ) (slots : List ℕ) → map place_at (tail slots) ≡ tail (map place_at slots)
tail_map place_at [] = refl
tail_map place_at (slot ∷ slots) = refl

module _ {C X G : Type 0} (slot_at place_at : ℕ → ℕ → ℕ) (one : (measure : ℕ) → IsOneToOne (slot_at measure) (place_at measure))
    (seat : Seat (Option C) (SeatView (G × ℕ) X)) (number : ℕ) (entries : List Entry) (cells : List (HeldCell C)) (cell : HeldCell C)
    (core : IsCore place_at seat number entries (cells ++ cell ∷ [])) where
  abbrev slot : ℕ
  slot = slot_at seat.me.0.first.1.1 cell.place

  -- the last cell lies within its table
  pub last_within : cell.place < seat.table_id.slots
  last_within = (subst (λ l. AreBelow seat.table_id.slots l) (core.places ∙ places_snoc cells cell) core.within).0

  shown : places_shown place_at seat.me.0 ≡ cell.place ∷ reverse (places_of cells)
  shown = core.places ∙ places_snoc cells cell

  -- its slot is the first of those that are held
  pub last_slot : seat.me.0.held ≡ slot ∷ tail seat.me.0.held
  last_slot = first_slot seat.me.0.held shown where
    first_slot : (held : List ℕ) → map (place_at seat.me.0.first.1.1) held ≡ cell.place ∷ reverse (places_of cells) → held ≡ slot ∷ tail held
    first_slot [] is = absurd (cc is)
    first_slot (s ∷ held) is =
        let here : place_at seat.me.0.first.1.1 s ≡ cell.place = cc is in
        ap (λ k. k ∷ held) (sym ((one seat.me.0.first.1.1).forth s) ∙ ap (slot_at seat.me.0.first.1.1) here)

  once_there : Has (tail seat.me.0.held) slot → ⊥
  once_there has =
      let places : map (place_at seat.me.0.first.1.1) (tail seat.me.0.held) ≡ reverse (places_of cells) =
      tail_map (place_at seat.me.0.first.1.1) seat.me.0.held ∙ ap tail shown in
      held_once cell.place (reverse (places_of cells)) (subst Falls shown core.falls)
      (subst (Has (reverse (places_of cells))) ((one seat.me.0.first.1.1).back cell.place)
      (subst (λ l. Has l (place_at seat.me.0.first.1.1 slot)) places
      (has_place (place_at seat.me.0.first.1.1) (tail seat.me.0.held) slot has)))

  -- the last cell of a core, once it was popped, goes home
  pub goes_home : (lawful : G → TreeState → List (Event X) → Type 0) (stands : G → TreeState → List (Event X) → ℕ → C → Type 0)
      (me : Me (Option C) (SeatView (G × ℕ) X)) → stands seat.me.0.first.1.0 seat.me.0.first.0 seat.me.0.seen cell.place cell.value
      → me ≡ (seat.me.0, (slot, Some cell.value) ∷ rest seat.me.1) → GoesHome (by_given lawful) (at_slots place_at stands) slot me
  goes_home lawful stands me stood is =
      subst (λ m. GoesHome (by_given lawful) (at_slots place_at stands) slot m) (sym is) (record {
        top = (
          cell.value,
          refl,
          subst (λ p. stands seat.me.0.first.1.0 seat.me.0.first.0 seat.me.0.seen p cell.value)
              (sym ((one seat.me.0.first.1.1).back cell.place)) stood,
        );
        holds = subst (λ l. Has l slot) (sym last_slot) (inl refl);
        once = once_there;
      })

-- A cell that a core took and brought out, at a place above all that it held.
pub record IsBrought {C X G : Type 0} (lawful : G → TreeState → List (Event X) → Type 0) (stands : G → TreeState → List (Event X) → ℕ → C → Type 0)
    (slot_at place_at : ℕ → ℕ → ℕ) (seat mid after : Seat (Option C) (SeatView (G × ℕ) X)) (place : ℕ) (value : C) : Type 0 where
  pub table : after.table_id ≡ seat.table_id
  pub takes : TakesCell (by_given lawful) (at_slots place_at stands) (slot_at seat.me.0.first.1.1 place) seat.me mid.me
  pub out : mid.me.1 ≡ (slot_at seat.me.0.first.1.1 place, Some value) ∷ rest mid.me.1
  pub empty : after.me ≡ (mid.me.0, (slot_at seat.me.0.first.1.1 place, None) ∷ rest mid.me.1)
  pub above : LiesAbove place (places_shown place_at seat.me.0)
  pub within : place < seat.table_id.slots

module _ {C X G : Type 0} (lawful : G → TreeState → List (Event X) → Type 0) (stands : G → TreeState → List (Event X) → ℕ → C → Type 0)
    (slot_at place_at : ℕ → ℕ → ℕ) (one : (measure : ℕ) → IsOneToOne (slot_at measure) (place_at measure))
    (seat mid after : Seat (Option C) (SeatView (G × ℕ) X)) (number : ℕ) (entries : List Entry) (cells : List (HeldCell C)) (place : ℕ) (value : C)
    (core : IsCore place_at seat number entries cells) (is : IsBrought lawful stands slot_at place_at seat mid after place value) where
  abbrev knows : after.me.0 ≡ mid.me.0
  knows = ap (λ (m : Me (Option C) (SeatView (G × ℕ) X)). m.0) is.empty

  saw_more : SawMore event_core is_call (IsLawful (lawful seat.me.0.first.1.0)) (stands_for (stands seat.me.0.first.1.0)) place (tree_view place_at seat.me.0)
      (tree_view place_at mid.me.0)
  saw_more = saw_down lawful stands slot_at place_at one seat.me.0 mid.me.0 place is.takes.saw

  -- as the core shows it
  pub brought_saw : SawMore event_core is_call (IsLawful (lawful seat.me.0.first.1.0)) (stands_for (stands seat.me.0.first.1.0)) place
      (tree_view place_at seat.me.0) (tree_view place_at after.me.0)
  brought_saw = subst (λ v. SawMore event_core is_call (IsLawful (lawful seat.me.0.first.1.0)) (stands_for (stands seat.me.0.first.1.0)) place
      (tree_view place_at seat.me.0) (tree_view place_at v)) (sym knows) saw_more

  -- its value stands for what the core has seen
  pub brought_stands : stands seat.me.0.first.1.0 seat.me.0.first.0 after.me.0.seen place value
  brought_stands =
      subst (λ (l : List (Event X)). stands seat.me.0.first.1.0 seat.me.0.first.0 l place value) (sym (ap (λ v. v.seen) knows))
      (subst (λ p. stands seat.me.0.first.1.0 seat.me.0.first.0 mid.me.0.seen p value) ((one seat.me.0.first.1.1).back place)
      (brought (by_given lawful) (at_slots place_at stands) (slot_at seat.me.0.first.1.1 place) seat.me mid.me value is.takes is.out).1)

  -- the core's parts fit with one cell more
  pub brought_fits : IsCore place_at after number entries (cells ++ record { place = place; value = value } ∷ [])
  brought_fits =
      let held : after.me.0.held ≡ slot_at seat.me.0.first.1.1 place ∷ seat.me.0.held = ap (λ v. v.held) knows ∙ is.takes.saw.held in
      let shown : places_shown place_at after.me.0 ≡ place ∷ places_shown place_at seat.me.0 = brought_saw.held in
      let frame = is.takes.saw.frame in
      record {
        lives = ap (λ v. v.gone) knows ∙ (ap (λ v. v.gone) frame ∙ core.lives);
        calls = ap (λ v. v.gathers) knows ∙ (ap (λ v. v.gathers) frame ∙ core.calls);
        number_known = ap (λ v. v.core) knows ∙ (ap (λ v. v.core) frame ∙ core.number_known);
        entries_are = subst (λ (m : List (Event X)). AreCallsOf m entries) (sym (ap (λ v. v.mine) knows ∙ ap (λ v. v.mine) frame)) core.entries_are;
        few = core.few;
        places = shown ∙ (ap (λ l. place ∷ l) core.places ∙ sym (places_snoc cells (record { place = place; value = value })));
        falls = subst Falls (sym shown) (is.above, core.falls);
        slots =
            ap (λ (m : Me (Option C) (SeatView (G × ℕ) X)). m.1) is.empty
            ∙ (ap (λ l. (slot_at seat.me.0.first.1.1 place, None) ∷ l)
            ((brought (by_given lawful) (at_slots place_at stands) (slot_at seat.me.0.first.1.1 place) seat.me mid.me value is.takes is.out).0 ∙ core.slots)
            ∙ ap empty_slots (sym held));
        within = subst (λ (z : ℕ × List ℕ). AreBelow z.0 z.1) (λ i. (sym (ap (λ t. t.slots) is.table) i, sym shown i)) (is.within, core.within);
      }
