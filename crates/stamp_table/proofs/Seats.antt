-- From what a seat knows, by slots, to what its core shows, by places, and back: the facts are the same.
use Rattle.std.proofs.Common.{◌≡◌, ℕ, List, [], ◌∷◌, map, Option, Some, None, refl, ap, sym, ◌∙◌, subst, inl, inr, ⊎_elim}
use Rattle.tree_laws.specs.Tree.{TreeState}
use Rattle.stamp_table.specs.declared.event.Event.{Event}
use Rattle.stamp_table.specs.Rule.{Has}
use Rattle.stamp_table.specs.Placing.{IsOneToOne, by_given, at_slots}
use Rattle.stamp_table.specs.Steps.{SawMore, Drew, Sees, MayDraw, IsPast}
use Rattle.stamp_table.specs.Events.{event_core, is_call, IsLawful, stands_for, SeatView, tree_view, places_shown, LawfulFrom, StandsFrom}

-- the place of a slot is among the places of some slots
pub has_place : (place_at : ℕ → ℕ) (slots : List ℕ) (slot : ℕ) → Has slots slot → Has (map place_at slots) (place_at slot)
has_place place_at [] slot has = absurd has
has_place place_at (first ∷ slots) slot has = ⊎_elim (λ here. inl (ap place_at here)) (λ there. inr (has_place place_at slots slot there)) has

-- and a place among them is that of one of the slots
pub has_slot : (place_at : ℕ → ℕ) (slots : List ℕ) (place : ℕ) → Has (map place_at slots) place → (slot : ℕ) × Has slots slot × (place_at slot ≡ place)
has_slot place_at [] place has = absurd has
has_slot place_at (first ∷ slots) place has =
    ⊎_elim (λ here. (first, inl refl, here)) (λ there. let r = has_slot place_at slots place there in (r.0, inr r.1, r.2)) has

module _ {C X G : Type 0} (place_at : ℕ → ℕ → ℕ) (stands : G → TreeState → List (Event X) → ℕ → C → Type 0) where
  -- what stands for something by its slot does so by its place
  pub by_place : (given : G × ℕ) (first : TreeState) (log : List (Event X)) (slot : ℕ) (value : Option C)
      → stands_for (at_slots place_at stands given) first log slot value → stands_for (stands given.0) first log (place_at given.1 slot) value
  by_place given first log slot None stood = absurd stood
  by_place given first log slot (Some value) stood = stood

  pub by_slot : (given : G × ℕ) (first : TreeState) (log : List (Event X)) (slot : ℕ) (value : Option C)
      → stands_for (stands given.0) first log (place_at given.1 slot) value → stands_for (at_slots place_at stands given) first log slot value
  by_slot given first log slot None stood = absurd stood
  by_slot given first log slot (Some value) stood = stood

module _ {C X G : Type 0} (lawful : G → TreeState → List (Event X) → Type 0) (stands : G → TreeState → List (Event X) → ℕ → C → Type 0)
    (slot_at place_at : ℕ → ℕ → ℕ) (one : (measure : ℕ) → IsOneToOne (slot_at measure) (place_at measure)) where
  -- what stood for held cells by their slots does so by their places
  kept_down : (v : SeatView (G × ℕ) X) (log next : List (Event X))
      → ((slot : ℕ) (value : Option C) → Has v.held slot → StandsFrom (at_slots place_at stands) v.first log slot value
      → StandsFrom (at_slots place_at stands) v.first next slot value)
      → (place : ℕ) (value : Option C) → Has (places_shown place_at v) place → stands_for (stands v.first.1.0) v.first.0 log place value
      → stands_for (stands v.first.1.0) v.first.0 next place value
  kept_down v log next kept place value has stood = let s = has_slot (place_at v.first.1.1) v.held place has in
      subst (λ p. stands_for (stands v.first.1.0) v.first.0 next p value) s.2
      (by_place place_at stands v.first.1 v.first.0 next s.0 value
      (kept s.0 value s.1
      (by_slot place_at stands v.first.1 v.first.0 log s.0 value (subst (λ p. stands_for (stands v.first.1.0) v.first.0 log p value) (sym s.2) stood))))

  -- a history that a core may meet, as the core shows it
  pub past_down : (v : SeatView (G × ℕ) X) (log : List (Event X)) → IsPast event_core is_call (LawfulFrom (by_given lawful))
      (StandsFrom (at_slots place_at stands)) v log
      → IsPast event_core is_call (IsLawful (lawful v.first.1.0)) (stands_for (stands v.first.1.0)) (tree_view place_at v) log
  past_down v log past = record { legal_log = past.legal_log; seen = past.seen; mine = past.mine; held = kept_down v v.seen log past.held }

  -- an entry that may come, as the seat asks it
  pub draw_up : (v : SeatView (G × ℕ) X) (entry : ℕ → Event X) (log : List (Event X))
      → MayDraw event_core is_call (IsLawful (lawful v.first.1.0)) (stands_for (stands v.first.1.0)) (tree_view place_at v) entry log
      → MayDraw event_core is_call (LawfulFrom (by_given lawful)) (StandsFrom (at_slots place_at stands)) v entry log
  draw_up v entry log may = record {
    legal_next = may.legal_next;
    keeps = λ slot value none stood.
        by_slot place_at stands v.first.1 v.first.0 _ slot value
        (may.keeps (place_at v.first.1.1 slot) value
        (λ has. let s = has_slot (place_at v.first.1.1) v.held (place_at v.first.1.1 slot) has in
        let map_is = one v.first.1.1 in
        none (subst (Has v.held) (sym (map_is.forth s.0) ∙ (ap (slot_at v.first.1.1) s.2 ∙ map_is.forth slot)) s.1))
        (by_place place_at stands v.first.1 v.first.0 log slot value stood));
  }

  -- an entry that was added, as the core shows it
  pub drew_down : (v w : SeatView (G × ℕ) X) (entry : ℕ → Event X) (number : ℕ) (log : List (Event X))
      → Drew event_core is_call (LawfulFrom (by_given lawful)) (StandsFrom (at_slots place_at stands)) entry v number w log
      → Drew event_core is_call (IsLawful (lawful v.first.1.0)) (stands_for (stands v.first.1.0)) entry (tree_view place_at v) number (tree_view place_at w) log
  drew_down v w entry number log drew = record {
    frame = ap (tree_view place_at) drew.frame;
    number_is = drew.number_is;
    seen = drew.seen;
    kept = kept_down v v.seen log drew.kept;
    entry_last = drew.entry_last;
    mine = drew.mine;
    legal_seen = drew.legal_seen;
    own = drew.own;
  }

  -- a cell that was taken, as the core shows it
  pub saw_down : (v w : SeatView (G × ℕ) X) (place : ℕ)
      → SawMore event_core is_call (LawfulFrom (by_given lawful)) (StandsFrom (at_slots place_at stands)) (slot_at v.first.1.1 place) v w
      → SawMore event_core is_call (IsLawful (lawful v.first.1.0)) (stands_for (stands v.first.1.0)) place (tree_view place_at v) (tree_view place_at w)
  saw_down v w place saw = let same = ap (λ (u : SeatView (G × ℕ) X). u.first) saw.frame in record {
    frame = λ i. record (tree_view place_at (saw.frame i)) { held = places_shown place_at v };
    seen = saw.seen;
    legal_seen = saw.legal_seen;
    mine = saw.mine;
    kept = kept_down v v.seen w.seen saw.kept;
    held =
        ap (λ (f : TreeState × (G × ℕ)). map (place_at f.1.1) w.held) same
        ∙ (ap (map (place_at v.first.1.1)) saw.held
        ∙ ap (λ p. p ∷ places_shown place_at v) ((one v.first.1.1).back place));
  }

  -- a history that was seen, as the core shows it
  pub sees_down : (v w : SeatView (G × ℕ) X) (number : ℕ)
      → Sees event_core is_call (LawfulFrom (by_given lawful)) (StandsFrom (at_slots place_at stands)) v number w
      → Sees event_core is_call (IsLawful (lawful v.first.1.0)) (stands_for (stands v.first.1.0)) (tree_view place_at v) number (tree_view place_at w)
  sees_down v w number sees = record {
    frame = ap (tree_view place_at) sees.frame;
    number_is = sees.number_is;
    seen = sees.seen;
    legal_seen = sees.legal_seen;
    mine = sees.mine;
    kept = kept_down v v.seen w.seen sees.kept;
  }
