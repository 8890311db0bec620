-- The cores of a table that begins.
use Rattle.std.proofs.Common.{◌≡◌, ℕ, zero, suc, ◌+◌, ◌<◌, ◌≤◌, true, List, [], ◌∷◌, ◌++◌, length, Option, Some, slice_get, sym, refl, ap, ◌∙◌, subst, arith, get_or, set, replicate}
use Rattle.std.specs.Global.{Vec}
use Rattle.std.specs.Prelude.{All}
use Rattle.std.specs.Vec.{vec_capacity}
use Rattle.std.proofs.lemmas.List.Elements.{All-cons, All-nil}
use lib.ListN.{get_elem?}
use mathlib.Core.Option.{some, some-injective}
use Rattle.atomic_table.specs.Table.{Splits, opening}
use Rattle.tree_laws.specs.Tree.{TreeState}
use Rattle.stamp_table.specs.declared.event.Event.{Event}
use Rattle.stamp_table.specs.Rule.{Kept}
use Rattle.stamp_table.specs.Placing.{IsOneToOne, FillsSlots, at_slots}
use Rattle.stamp_table.specs.Steps.{gatherer, one_more, newcomer}
use Rattle.stamp_table.specs.Events.{event_core, is_call, stands_for, SeatView, LawfulFrom, StandsFrom}
use Rattle.stamp_table.specs.Hand.{Hand, Desk}
use Rattle.stamp_table.specs.Table.{TableState, IsIdleCore, AreIdleFrom, IsNew, AreNew, AreInSlots, CoresHaveRoom, HaveRoomFor, IsBetweenCalls, IsSameCore, AreAllCores, first_leads}
use Rattle.stamp_table.proofs.Gathering.{may_split, begins}
use Rattle.stamp_table.proofs.Keeps.{get_elem_within}

-- the seat that gathers, once so many cores are made
abbrev pub gatherer_with : {X G : Type 0} → TreeState × G → ℕ → SeatView G X
gatherer_with start cores = record (gatherer start) { cores = cores }

-- an element that is within a list is there
elem_there : {A : Type 0} (xs : List A) (place : ℕ) → place < length xs → (x : A) × (slice_get xs place ≡ Some x)
elem_there [] place lt = absurd (omega (arith, lt))
elem_there (y ∷ xs) zero lt = (y, refl)
elem_there (y ∷ xs) (suc place) lt = elem_there xs place (omega (arith, lt))

-- words that are all 0
pub all_zero : (count place : ℕ) → let none : ℕ = 0 in get_or (replicate count none) place none ≡ none
all_zero zero place = refl
all_zero (suc count) zero = refl
all_zero (suc count) (suc place) = all_zero count place

-- one empty list more with room
pub held_snoc : {A : Type 0} (room : ℕ) (lists : List (Vec A)) (list : Vec A) → HaveRoomFor room lists → (list.items ≡ []) × (room ≤ vec_capacity list)
    → HaveRoomFor room (lists ++ list ∷ [])
held_snoc room [] list have next = (next, tt)
held_snoc room (l ∷ lists) list have next = (have.0, held_snoc room lists list have.1 next)

-- room for some cells is room for none
pub held_none : {A : Type 0} (room : ℕ) (lists : List (Vec A)) → HaveRoomFor room lists → HaveRoomFor 0 lists
held_none room [] have = tt
held_none room (list ∷ lists) have = ((have.0.0, omega arith), held_none room lists have.1)

module _ {C X G : Type 0} where
  pub ready_snoc : (table : Desk G) (cores number : ℕ) (hands : List (Hand C X G)) (hand : Hand C X G) → AreIdleFrom table cores number hands
      → IsIdleCore table cores (number + length hands) hand → AreIdleFrom table cores number (hands ++ hand ∷ [])
  ready_snoc table cores number [] hand ready next = (subst (λ n. IsIdleCore table cores n hand) (omega arith) next, tt)
  ready_snoc table cores number (h ∷ hands) hand ready next =
      (ready.0, ready_snoc table cores (number + 1) hands hand ready.1 (subst (λ n. IsIdleCore table cores n hand) (omega arith) next))

  pub ready_next : (table : Desk G) (cores : ℕ) (hands : List (Hand C X G)) (hand : Hand C X G) → AreIdleFrom table cores 0 hands
      → IsIdleCore table cores (length hands) hand → AreIdleFrom table cores 0 (hands ++ hand ∷ [])
  ready_next table cores hands hand ready next = ready_snoc table cores 0 hands hand ready (subst (λ n. IsIdleCore table cores n hand) (omega arith) next)

  pub new_snoc : (first : TreeState) (hands : List (Hand C X G)) (hand : Hand C X G) → AreNew first hands → IsNew first hand
      → AreNew first (hands ++ hand ∷ [])
  new_snoc first [] hand new next = (next, tt)
  new_snoc first (h ∷ hands) hand new next = (new.0, new_snoc first hands hand new.1 next)

  -- one more core may be made
  pub asks_split : (lawful : G → TreeState → List (Event X) → Type 0) (stands : G → TreeState → List (Event X) → ℕ → C → Type 0) (start : TreeState × G)
      (id number cores : ℕ)
      → number < cores → cores < 256
      → Splits (Kept event_core is_call (LawfulFrom lawful) (StandsFrom stands) start) id (gatherer_with start number) (one_more (gatherer_with start number))
      (newcomer (gatherer_with start number))
  asks_split lawful stands start id number cores lt few =
      may_split event_core is_call (LawfulFrom lawful) (StandsFrom stands) start id (gatherer_with start number) refl refl (omega (arith, lt, few))

  pub room_snoc : (room : ℕ) (hands : List (Hand C X G)) (hand : Hand C X G) → CoresHaveRoom room hands → room ≤ hand.room
      → CoresHaveRoom room (hands ++ hand ∷ [])
  room_snoc room [] hand have next = (next, tt)
  room_snoc room (h ∷ hands) hand have next = (have.0, room_snoc room hands hand have.1 next)

  -- the first core may be put anew
  pub room_led : (room : ℕ) (hands : List (Hand C X G)) (old new : Hand C X G) → CoresHaveRoom room hands → old ≡ get_or hands 0 old → 0 < length hands
      → new.room ≡ old.room → CoresHaveRoom room (set hands 0 new)
  room_led room [] old new have read long same = absurd (omega (arith, long))
  room_led room (hand ∷ hands) old new have read long same =
      (subst (λ n. room ≤ n) (ap (λ (h : Hand C X G). h.room) (sym read) ∙ sym same) have.0, have.1)

  -- values that are laid out by their places stand by their slots
  pub laid_in_slots : (stands : G → TreeState → List (Event X) → ℕ → C → Type 0) (given : G) (measure : ℕ) (first : TreeState)
      (slot_at place_at : ℕ → ℕ → ℕ) (cells : List C) (slots : List (Option C)) → IsOneToOne (slot_at measure) (place_at measure)
      → FillsSlots (length cells) (slot_at measure) (place_at measure) → length slots ≡ length cells
      → ((place : ℕ) (value : C) → slice_get cells place ≡ Some value → get_elem? slots (slot_at measure place) ≡ some (Some value))
      → ((place : ℕ) (value : C) → slice_get cells place ≡ Some value → stands given first [] place value)
      → AreInSlots stands place_at given measure first slots
  laid_in_slots stands given measure first slot_at place_at cells slots one fills long laid stood = record {
    each = λ slot low.
        let lt : slot < length cells = subst (λ n. slot < n) long low in
        let there = elem_there cells (place_at measure slot) (fills.places slot lt) in (
          there.0,
          ap (get_elem? slots) (sym (one.forth slot)) ∙ laid (place_at measure slot) there.0 there.1,
          stood (place_at measure slot) there.0 there.1,
        );
  }

  -- values in slots are what their cells stand for
  pub in_slots_stood : (stands : G → TreeState → List (Event X) → ℕ → C → Type 0) (start : TreeState × (G × ℕ)) (place_at : ℕ → ℕ → ℕ)
      (slots : List (Option C)) → AreInSlots stands place_at start.1.0 start.1.1 start.0 slots
      → (slot : ℕ) (x : Option C) → get_elem? slots slot ≡ some x → stands_for (at_slots place_at stands start.1) start.0 [] slot x
  in_slots_stood stands start place_at slots are slot x at =
      let one = are.each slot (get_elem_within slots slot x at) in
      let same : Some one.0 ≡ x = some-injective (Some one.0) x (sym one.1 ∙ at) in
      subst (λ y. stands_for (at_slots place_at stands start.1) start.0 [] slot y) same one.2

  -- the rule holds of a table that begins
  pub asks_new : (lawful : G → TreeState → List (Event X) → Type 0) (stands : G → TreeState → List (Event X) → ℕ → C → Type 0) (start : TreeState × G)
      (words : List ℕ) (slots : List (Option C)) → get_or words 0 0 ≡ 0 → length words ≡ 16 + length slots → lawful start.1 start.0 []
      → ((slot : ℕ) (x : Option C) → get_elem? slots slot ≡ some x → stands_for (stands start.1) start.0 [] slot x)
      → Kept event_core is_call (LawfulFrom lawful) (StandsFrom stands) start (opening words slots (gatherer start))
  asks_new lawful stands start words slots zero_stamp long told stood =
      begins event_core is_call (LawfulFrom lawful) (StandsFrom stands) start words slots zero_stamp long
      (record { legal_calls = tt; told = told }) stood

  -- new cores are between two calls
  pub new_between : (t : TableState G) (number : ℕ) (hands : List (Hand C X G)) → AreIdleFrom t.table t.cores number hands → AreNew t.first hands
      → number + length hands ≤ length t.first.made → All (IsBetweenCalls t) hands
  new_between t number [] idle new within = All-nil (IsBetweenCalls t)
  new_between t number (h ∷ hands) idle new within = All-cons (IsBetweenCalls t) h hands
      (record {
        table_is = idle.0.table_is;
        first_is = new.0.first_is;
        core_is = let n = idle.0.number_is in omega (arith, n, within);
        holds_none = idle.0.holds_none;
        none_held = new.0.none_held;
        none_waits = new.0.none_waits;
      })
      (new_between t (number + 1) hands idle.1 new.1 (omega (arith, within)))

  -- cores that stay what they are and are between two calls again are still all cores of the table
  pub idle_again : (t : TableState G) (number : ℕ) (before after : List (Hand C X G)) → length after ≡ length before
      → AreIdleFrom t.table t.cores number before
      → ((place : ℕ) (d : Hand C X G) → place < length before → IsSameCore (get_or before place d) (get_or after place d)
      × ((get_or after place d).held ≡ []))
      → AreIdleFrom t.table t.cores number after
  idle_again t number [] [] long idle same = tt
  idle_again t number [] (a ∷ after) long idle same = absurd (omega (arith, long))
  idle_again t number (b ∷ before) [] long idle same = absurd (omega (arith, long))
  idle_again t number (b ∷ before) (a ∷ after) long idle same = let here = same 0 b (omega arith) in (
    record {
      table_is = here.0.table ∙ idle.0.table_is;
      cores_are = here.0.cores ∙ idle.0.cores_are;
      number_is = here.0.number ∙ idle.0.number_is;
      holds_none = here.1;
    },
    idle_again t (number + 1) before after (omega (arith, long)) idle.1 (λ place d lt. same (suc place) d (omega (arith, lt))),
  )

  leads_again : (before after : List (Hand C X G)) → length after ≡ length before
      → ((place : ℕ) (d : Hand C X G) → place < length before → IsSameCore (get_or before place d) (get_or after place d)
      × ((get_or after place d).held ≡ []))
      → first_leads before ≡ true → first_leads after ≡ true
  leads_again [] [] long same leads = leads
  leads_again [] (a ∷ after) long same leads = absurd (omega (arith, long))
  leads_again (b ∷ before) [] long same leads = absurd (omega (arith, long))
  leads_again (b ∷ before) (a ∷ after) long same leads = (same 0 b (omega arith)).0.leads ∙ leads

  pub all_again : (t : TableState G) (before after : List (Hand C X G)) → length after ≡ length before
      → ((place : ℕ) (d : Hand C X G) → place < length before → IsSameCore (get_or before place d) (get_or after place d)
      × ((get_or after place d).held ≡ []))
      → AreAllCores t before → AreAllCores t after
  all_again t before after long same all = record {
    count = long ∙ all.count;
    leads = leads_again before after long same all.leads;
    ready = idle_again t 0 before after long all.ready same;
  }
