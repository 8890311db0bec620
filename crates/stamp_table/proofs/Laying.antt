-- Values in the slots of their places, as a table begins and as it ends.
use Rattle.std.proofs.Common.{◌≡◌, ◌≢◌, ℕ, zero, suc, ◌+◌, ◌<◌, ◌≤◌, Bool, true, false, List, [], ◌∷◌, ◌++◌, drop, length, Option, Some, slice_get, sym, refl, ap, ◌∙◌, arith, get_or, set, get_or-set_same, get_or-set_other}
use Rattle.std.proofs.lemmas.Option.{slice_get_within}
use mathlib.Core.Logic.{dite}
use native.Mathlib.Decide.{ℕ_discrete}
use lib.ListN.{get_elem?}
use mathlib.Core.Option.{some}
use Rattle.atomic_table.proofs.Lists.{set_here, set_else}
use Rattle.stamp_table.specs.Placing.{IsOneToOne, FillsSlots, IsLaidOut}

-- so many cells fill the slots in the order of their places, by no number
pub laid_in_order : (cells : ℕ) → IsLaidOut cells (λ place. place) (λ slot. slot) 0
laid_in_order cells = record { few = omega arith; fills = record { slots = λ place lt. lt; places = λ slot lt. lt } }

-- what comes next of a list
pub record IsNextOf {C : Type 0} (cells : List C) (place : ℕ) (cell : C) (rest : List C) : Type 0 where
  pub there : slice_get cells place ≡ Some cell
  pub after : rest ≡ drop (place + 1) cells
  pub within : place < length cells

pub next_of : {C : Type 0} (cells : List C) (place : ℕ) (cell : C) (rest : List C) → drop place cells ≡ cell ∷ rest → IsNextOf cells place cell rest
next_of [] zero cell rest is = absurd (cc is)
next_of [] (suc place) cell rest is = absurd (cc is)
next_of (c ∷ cells) zero cell rest is = record { there = ap Some (cc is); after = sym (cc is); within = omega arith }
next_of (c ∷ cells) (suc place) cell rest is =
    let r = next_of cells place cell rest is in
    let shift : suc (place + 1) ≡ suc place + 1 = omega arith in
    record { there = r.there; after = r.after ∙ ap (λ n. drop n (c ∷ cells)) shift; within = (let w = r.within in omega (arith, w)) }

pub none_next : {C : Type 0} (cells : List C) (place : ℕ) → drop place cells ≡ [] → length cells ≤ place
none_next [] place is = omega arith
none_next (c ∷ cells) zero is = absurd (cc is)
none_next (c ∷ cells) (suc place) is = let r = none_next cells place is in omega (arith, r)

last_get : {C : Type 0} (values : List C) (value other : C) (place : ℕ) → slice_get (values ++ value ∷ []) place ≡ Some other → (place ≡ length values → ⊥)
    → slice_get values place ≡ Some other
last_get [] value other zero at not = absurd (not refl)
last_get [] value other (suc place) at not = absurd (cc at)
last_get (v ∷ values) value other zero at not = at
last_get (v ∷ values) value other (suc place) at not = last_get values value other place at (λ is. not (ap suc is))

last_is : {C : Type 0} (values : List C) (value other : C) → slice_get (values ++ value ∷ []) (length values) ≡ Some other → value ≡ other
last_is [] value other at = cc at
last_is (v ∷ values) value other at = last_is values value other at

module _ (slot_at place_at : ℕ → ℕ) (one : IsOneToOne slot_at place_at) where
  -- two places have two slots
  pub apart : (place other : ℕ) → place ≢ other → slot_at place ≢ slot_at other
  apart place other not same = not (sym (one.back place) ∙ (ap place_at same ∙ one.back other))

  -- one value more lies in the slot of its place
  pub laid_next : {C : Type 0} (cells : List C) (slots : List (Option C)) (place : ℕ) (cell : C) → slice_get cells place ≡ Some cell
      → slot_at place < length slots
      → ((p : ℕ) (value : C) → p < place → slice_get cells p ≡ Some value → get_elem? slots (slot_at p) ≡ some (Some value))
      → (p : ℕ) (value : C) → p < place + 1 → slice_get cells p ≡ Some value
      → get_elem? (set slots (slot_at place) (Some cell)) (slot_at p) ≡ some (Some value)
  laid_next {C} cells slots place cell there within laid p value lt at = dite (ℕ_discrete p place)
      (λ is. ap (λ k. get_elem? (set slots (slot_at place) (Some cell)) (slot_at k)) is
      ∙ (set_here slots (slot_at place) (Some cell) within ∙ ap (λ (o : Option C). some o) (sym there ∙ (ap (slice_get cells) (sym is) ∙ at))))
      (λ not. set_else slots (slot_at place) (slot_at p) (Some cell) (apart p place not) ∙ laid p value (grind (arith, lt, not)) at)

  -- all values lie in the slots of their places
  pub laid_all : {C : Type 0} (cells : List C) (slots : List (Option C)) (place : ℕ) → drop place cells ≡ []
      → ((p : ℕ) (value : C) → p < place → slice_get cells p ≡ Some value → get_elem? slots (slot_at p) ≡ some (Some value))
      → (p : ℕ) (value : C) → slice_get cells p ≡ Some value → get_elem? slots (slot_at p) ≡ some (Some value)
  laid_all cells slots place none laid p value at =
      laid p value (let w = slice_get_within cells p value at in let n = none_next cells place none in omega (arith, w, n)) at

  -- one value more is that of its slot
  pub taken_next : {C : Type 0} (slots : List (Option C)) (values : List C) (value : C) → get_elem? slots (slot_at (length values)) ≡ some (Some value)
      → ((p : ℕ) (v : C) → slice_get values p ≡ Some v → get_elem? slots (slot_at p) ≡ some (Some v))
      → (p : ℕ) (v : C) → slice_get (values ++ value ∷ []) p ≡ Some v → get_elem? slots (slot_at p) ≡ some (Some v)
  taken_next {C} slots values value here taken p v at = dite (ℕ_discrete p (length values))
      (λ is. ap (λ k. get_elem? slots (slot_at k)) is
      ∙ (here ∙ ap (λ (x : C). some (Some x)) (last_is values value v (ap (slice_get (values ++ value ∷ [])) (sym is) ∙ at))))
      (λ not. taken p v (last_get values value v p at not))

  -- a slot that is emptied leaves those of the other places as they were
  pub still_filled : (flags : List Bool) (place p : ℕ) → place < p → get_or flags (slot_at p) false ≡ true
      → get_or (set flags (slot_at place) false) (slot_at p) false ≡ true
  still_filled flags place p lt was =
      get_or-set_other flags (slot_at place) (slot_at p) false false (apart p place (λ is. omega (arith, is, lt))) ∙ was

  pub emptied_next : (flags : List Bool) (place p : ℕ) → slot_at place < length flags
      → ((q : ℕ) → q < place → get_or flags (slot_at q) false ≡ false) → p < place + 1
      → get_or (set flags (slot_at place) false) (slot_at p) false ≡ false
  emptied_next flags place p within were lt = dite (ℕ_discrete p place)
      (λ is. ap (λ k. get_or (set flags (slot_at place) false) (slot_at k) false) is ∙ get_or-set_same flags (slot_at place) false false within)
      (λ not. get_or-set_other flags (slot_at place) (slot_at p) false false (apart p place not) ∙ were p (grind (arith, lt, not)))

  -- where all places are emptied all slots are
  pub all_emptied : (cells : ℕ) (flags : List Bool) → FillsSlots cells slot_at place_at → ((p : ℕ) → p < cells → get_or flags (slot_at p) false ≡ false)
      → (slot : ℕ) → slot < cells → get_or flags slot false ≡ false
  all_emptied cells flags fills were slot lt = ap (λ k. get_or flags k false) (sym (one.forth slot)) ∙ were (place_at slot) (fills.places slot lt)
