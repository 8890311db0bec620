-- Blocks of slots with a patch: which block stands at a place, and what a function makes of all of them.
use Rattle.std.proofs.Common.{◌≡◌, ℕ, zero, suc, ◌+◌, ◌-◌, ◌^◌, ◌<◌, ◌≤◌, Bool, true, false, cond, List, [], ◌∷◌, ◌++◌, length, get_or, take, map, Option, Some, None, ◌⊎◌, inl, inr, refl, sym, ap, subst, ◌∙◌, arith, nat_eq}
use Rattle.std.specs.Prelude.{slice_get, option_map}
use Rattle.std.specs.List.{list_any}
use Rattle.std.specs.Option.{option_map_or}
use Rattle.std.proofs.Math.ListN.{set}
use Rattle.std.proofs.lemmas.Bool.{cases_Bool, cases_lt, cond-true, cond-false, eqb-true, eqb-false}
use Rattle.std.proofs.lemmas.List.{length-set, get_or-set_same, get_or-set_other, length-append, length-map, get_or-map, take-map}
use Rattle.sfs_image.specs.Slot.{Row}
use Rattle.sfs_base.proofs.BasicOptions.{none_some, some_not_none, some_same}
use Rattle.disk_change.specs.Directory.{is_in_net}
use Rattle.keyed_list.specs.Ascending.{AscendBy, item_with}
use Rattle.keyed_list.proofs.Searched.{ascends_behind, first_is_least, no_item}
use Rattle.absorb.specs.declared.nets.NetRow.{NetRow}
use Rattle.disk_change.specs.Patched.{SlotsPatch, FitsBlocks, IsPatchFor, slots_place, with_placed, patched}
use Rattle.disk_change.specs.declared.placed.PlacedSlots.{PlacedSlots}

pub length-placed : (changed : List PlacedSlots) (blocks : List (List (Option Row))) → length (with_placed changed blocks) ≡ length blocks
length-placed [] blocks = refl
length-placed (one ∷ rest) blocks = length-placed rest (set blocks one.place one.slots) ∙ length-set blocks one.place one.slots

-- the last of the blocks that get other slots
pub placed_last : (changed : List PlacedSlots) (one : PlacedSlots) (blocks : List (List (Option Row)))
    → with_placed (changed ++ one ∷ []) blocks ≡ set (with_placed changed blocks) one.place one.slots
placed_last [] one blocks = refl
placed_last (first ∷ rest) one blocks = placed_last rest one (set blocks first.place first.slots)

-- a block has the other slots of its place, or its own
pub placed_at : (changed : List PlacedSlots) (blocks : List (List (Option Row))) (n : ℕ) (d : List (Option Row)) → AscendBy slots_place changed
    → n < length blocks
    → get_or (with_placed changed blocks) n d ≡ option_map_or (λ one. one.slots) (item_with slots_place n changed) (get_or blocks n d)
placed_at [] blocks n d up within = refl
placed_at (one ∷ rest) blocks n d up within =
    by_test (cases_Bool (nat_eq one.place n))
    (placed_at rest (set blocks one.place one.slots) n d (ascends_behind slots_place one rest up)
    (let same = length-set blocks one.place one.slots in omega (arith, within, same)))
  where
    by_test : (nat_eq one.place n ≡ true) ⊎ (nat_eq one.place n ≡ false)
        → get_or (with_placed rest (set blocks one.place one.slots)) n d
        ≡ option_map_or (λ (one : PlacedSlots). one.slots) (item_with slots_place n rest) (get_or (set blocks one.place one.slots) n d)
        → get_or (with_placed rest (set blocks one.place one.slots)) n d
        ≡ option_map_or (λ (one : PlacedSlots). one.slots) (cond (nat_eq one.place n) (Some one) (item_with slots_place n rest)) (get_or blocks n d)
    by_test (inl is) more =
        let same : one.place ≡ n = eqb-true one.place n is in
        more
        ∙ ap (λ (o : Option PlacedSlots). option_map_or (λ p. p.slots) o (get_or (set blocks one.place one.slots) n d))
        (no_item slots_place rest n (λ k e low at. let above = first_is_least slots_place one rest up k e low in omega (arith, above, at, same)))
        ∙ ap (λ k. get_or (set blocks k one.slots) n d) same
        ∙ get_or-set_same blocks n one.slots d within
        ∙ sym (ap (λ (o : Option PlacedSlots). option_map_or (λ p. p.slots) o (get_or blocks n d)) (cond-true (nat_eq one.place n) (Some one) (item_with slots_place n rest) is))
    by_test (inr other) more =
        let apart = eqb-false one.place n other in
        more
        ∙ ap (option_map_or (λ (p : PlacedSlots). p.slots) (item_with slots_place n rest))
        (get_or-set_other blocks one.place n one.slots d (λ e. apart (sym e)))
        ∙ sym (ap (λ (o : Option PlacedSlots). option_map_or (λ p. p.slots) o (get_or blocks n d)) (cond-false (nat_eq one.place n) (Some one) (item_with slots_place n rest) other))

-- where nothing is there, all is as much as the default
pub past : {X : Type 0} (xs : List X) (n : ℕ) (d : X) → length xs ≤ n → get_or xs n d ≡ d
past [] n d le = refl
past (x ∷ xs) zero d le = absurd (omega arith)
past (x ∷ xs) (suc n) d le = past xs n d (omega arith)

-- behind a list stands what stands in the next one
slice_behind : {X : Type 0} (xs ys : List X) (n : ℕ) → length xs ≤ n → slice_get (xs ++ ys) n ≡ slice_get ys (n - length xs)
slice_behind [] ys n le = ap (slice_get ys) (let e : n ≡ n - 0 = omega arith in e)
slice_behind (x ∷ xs) ys zero le = absurd (omega arith)
slice_behind (x ∷ xs) ys (suc n) le =
    slice_behind xs ys n (omega arith) ∙ ap (slice_get ys) (let e : n - length xs ≡ suc n - suc (length xs) = omega arith in e)

slice_before : {X : Type 0} (xs ys : List X) (n : ℕ) (d : X) → n < length xs → slice_get (xs ++ ys) n ≡ Some (get_or xs n d)
slice_before [] ys n d lt = absurd (omega arith)
slice_before (x ∷ xs) ys zero d lt = refl
slice_before (x ∷ xs) ys (suc n) d lt = slice_before xs ys n d (omega arith)

module _ (patch : SlotsPatch) (blocks : List (List (Option Row))) where
  pub patched_behind : (n : ℕ) → length blocks ≤ n → slice_get (patched patch blocks) n ≡ slice_get patch.further (n - length blocks)
  patched_behind n le =
      let long = length-placed patch.changed blocks in
      slice_behind (with_placed patch.changed blocks) patch.further n (omega (arith, le, long)) ∙ ap (λ k. slice_get patch.further (n - k)) long

  pub patched_there : (n : ℕ) (d : List (Option Row)) → AscendBy slots_place patch.changed → n < length blocks
      → slice_get (patched patch blocks) n ≡ Some (option_map_or (λ one. one.slots) (item_with slots_place n patch.changed) (get_or blocks n d))
  patched_there n d up within =
      slice_before (with_placed patch.changed blocks) patch.further n d (let long = length-placed patch.changed blocks in omega (arith, within, long))
      ∙ ap Some (placed_at patch.changed blocks n d up within)

  pub length-patched : length (patched patch blocks) ≡ length blocks + length patch.further
  length-patched =
      length-append (with_placed patch.changed blocks) patch.further ∙ ap (λ k. k + length patch.further) (length-placed patch.changed blocks)

-- what a search among the blocks that get other slots finds at a place
module _ (patch : SlotsPatch) (blocks : List (List (Option Row))) (n : ℕ) (changed : List PlacedSlots) (same : changed ≡ patch.changed)
    (up : AscendBy slots_place changed) (within : n < length blocks) where
  found_at : (d : List (Option Row))
      → option_map_or (λ one. one.slots) (item_with slots_place n changed) (get_or blocks n d) ≡ option_map_or (λ one. one.slots) (item_with slots_place n patch.changed) (get_or blocks n d)
  found_at d = ap (λ l. option_map_or (λ (one : PlacedSlots). one.slots) (item_with slots_place n l) (get_or blocks n d)) same

  pub block_found : (one : PlacedSlots) → Some one ≡ item_with slots_place n changed → Some one.slots ≡ slice_get (patched patch blocks) n
  block_found one found =
      ap Some
      (ap (λ (o : Option PlacedSlots). option_map_or (λ p. p.slots) o (get_or blocks n one.slots)) found ∙ found_at one.slots)
      ∙ sym (patched_there patch blocks n one.slots (subst (AscendBy slots_place) same up) within)

  pub block_own : (block : List (Option Row)) → None ≡ item_with slots_place n changed → block ≡ get_or blocks n block → Some block ≡ slice_get (patched patch blocks) n
  block_own block none own =
      ap Some
      (own ∙ ap (λ (o : Option PlacedSlots). option_map_or (λ p. p.slots) o (get_or blocks n block)) none ∙ found_at block)
      ∙ sym (patched_there patch blocks n block (subst (AscendBy slots_place) same up) within)

-- what is lent of a place is what stands there
pub lent_at : {X : Type 0} (xs : List X) (n : ℕ) (d : X) (lent : Option X) → lent ≡ slice_get xs n → option_map_or (λ x. x) lent d ≡ get_or xs n d
lent_at {X} xs n d lent is = ap (λ (o : Option X). option_map_or (λ x. x) o d) is ∙ by_list xs n
  where
    by_list : (xs : List X) (n : ℕ) → option_map_or (λ x. x) (slice_get xs n) d ≡ get_or xs n d
    by_list [] n = refl
    by_list (x ∷ xs) zero = refl
    by_list (x ∷ xs) (suc n) = by_list xs n

-- what is taken of a list
pub taken_at : {X : Type 0} (end : ℕ) (xs : List X) (n : ℕ) → n < end → slice_get (take end xs) n ≡ slice_get xs n
taken_at zero xs n lt = absurd (omega arith)
taken_at (suc end) [] n lt = refl
taken_at (suc end) (x ∷ xs) zero lt = refl
taken_at (suc end) (x ∷ xs) (suc n) lt = taken_at end xs n (omega arith)

pub taken_past : {X : Type 0} (end : ℕ) (xs : List X) (n : ℕ) → end ≤ n → slice_get (take end xs) n ≡ None
taken_past zero xs n le = refl
taken_past (suc end) [] n le = refl
taken_past (suc end) (x ∷ xs) zero le = absurd (omega arith)
taken_past (suc end) (x ∷ xs) (suc n) le = taken_past end xs n (omega arith)

-- lists that have the same at each place up to an end
pub same_taken : {X : Type 0} (end : ℕ) (xs ys : List X) → ((n : ℕ) → n < end → slice_get xs n ≡ slice_get ys n) → take end xs ≡ take end ys
same_taken zero xs ys each = refl
same_taken (suc end) [] [] each = refl
same_taken (suc end) [] (y ∷ ys) each = absurd (none_some (each 0 (omega arith)))
same_taken (suc end) (x ∷ xs) [] each = absurd (some_not_none (each 0 (omega arith)))
same_taken (suc end) (x ∷ xs) (y ∷ ys) each =
    λ i. some_same (each 0 (omega arith)) i ∷ same_taken end xs ys (λ n lt. each (suc n) (omega arith)) i

-- a patch that changes nothing is one for any net, where no block stays
pub no_patch_for : (net : List NetRow) (blocks : List (List (Option Row))) (patch : SlotsPatch) → patch ≡ record { changed = []; further = [] }
    → length blocks < 2 ^ 64 → IsPatchFor net 0 blocks patch
no_patch_for net blocks patch none few = record {
  fits = record {
    within = λ k d low. absurd (let long = ap (λ (p : SlotsPatch). length p.changed) none in omega (arith, long, low));
    counted = let long = ap (λ (p : SlotsPatch). length p.further) none in omega (arith, long, few);
  };
  alone = λ n low. absurd (omega (arith, low));
}

-- What a function makes of a patch's blocks.
abbrev pub placed_by : (List (Option Row) → List (Option Row)) → PlacedSlots → PlacedSlots
placed_by f one = record one { slots = f one.slots }

abbrev pub patch_by : (List (Option Row) → List (Option Row)) → SlotsPatch → SlotsPatch
patch_by f patch = record { changed = map (placed_by f) patch.changed; further = map f patch.further }

slice_mapped : {X Y : Type 0} (f : X → Y) (xs : List X) (n : ℕ) → slice_get (map f xs) n ≡ option_map f (slice_get xs n)
slice_mapped f [] n = refl
slice_mapped f (x ∷ xs) zero = refl
slice_mapped f (x ∷ xs) (suc n) = slice_mapped f xs n

module _ (f : List (Option Row) → List (Option Row)) where
  item_mapped : (changed : List PlacedSlots) (n : ℕ) → item_with slots_place n (map (placed_by f) changed) ≡ option_map (placed_by f) (item_with slots_place n changed)
  item_mapped [] n = refl
  item_mapped (one ∷ rest) n = by (nat_eq one.place n) (item_mapped rest n)
    where
      by : (b : Bool) → item_with slots_place n (map (placed_by f) rest) ≡ option_map (placed_by f) (item_with slots_place n rest)
          → cond b (Some (placed_by f one)) (item_with slots_place n (map (placed_by f) rest))
          ≡ option_map (placed_by f) (cond b (Some one) (item_with slots_place n rest))
      by true more = refl
      by false more = more

  pub mapped_ascend : (changed : List PlacedSlots) → AscendBy slots_place changed → AscendBy slots_place (map (placed_by f) changed)
  mapped_ascend changed up i j d lt within =
      let low : j < length changed = omega (arith, within, length-map changed (placed_by f)) in
      let first = ap slots_place (get_or-map (placed_by f) changed i d d (omega (arith, lt, low))) in
      let later = ap slots_place (get_or-map (placed_by f) changed j d d low) in
      let less = up i j d lt low in
      omega (arith, first, later, less)

  pub mapped_fits : (blocks : List (List (Option Row))) (patch : SlotsPatch) → FitsBlocks blocks patch → FitsBlocks blocks (patch_by f patch)
  mapped_fits blocks patch fits = record {
    within = λ k d within.
        let low : k < length patch.changed = omega (arith, within, length-map patch.changed (placed_by f)) in
        let own = ap slots_place (get_or-map (placed_by f) patch.changed k d d low) in
        let less = fits.within k d low in
        omega (arith, own, less);
    counted = let long = length-map patch.further f in omega (arith, long, fits.counted);
  }

  -- where it leaves as they are the blocks that do not change up to an end, it makes the same of all blocks up to there
  pub patched_by : (net : List NetRow) (end : ℕ) (blocks : List (List (Option Row))) (patch : SlotsPatch) → AscendBy slots_place patch.changed
      → ((block : List (Option Row)) → list_any (is_in_net net) block ≡ false → f block ≡ block) → IsPatchFor net end blocks patch
      → take end (patched (patch_by f patch) blocks) ≡ map f (take end (patched patch blocks))
  patched_by net end blocks patch up keeps is =
      same_taken end (patched (patch_by f patch) blocks) (map f (patched patch blocks)) at ∙ take-map f end (patched patch blocks)
    where
      there : (n : ℕ) (o : Option PlacedSlots) → n < end → item_with slots_place n patch.changed ≡ o
          → option_map_or (λ (one : PlacedSlots). one.slots) (option_map (placed_by f) o) (get_or blocks n [])
          ≡ f (option_map_or (λ (one : PlacedSlots). one.slots) o (get_or blocks n []))
      there n None low none = sym (keeps (get_or blocks n []) (is.alone n low none))
      there n (Some one) low some = refl

      at : (n : ℕ) → n < end → slice_get (patched (patch_by f patch) blocks) n ≡ slice_get (map f (patched patch blocks)) n
      at n low = elim (cases_lt n (length blocks)) [
        | inl within ↦
            patched_there (patch_by f patch) blocks n [] (mapped_ascend patch.changed up) within
            ∙ ap (λ (o : Option PlacedSlots). Some (option_map_or (λ p. p.slots) o (get_or blocks n []))) (item_mapped patch.changed n)
            ∙ ap Some (there n (item_with slots_place n patch.changed) low refl)
            ∙ sym (slice_mapped f (patched patch blocks) n ∙ ap (option_map f) (patched_there patch blocks n [] up within))
        | inr past ↦
            patched_behind (patch_by f patch) blocks n past ∙ slice_mapped f patch.further (n - length blocks)
            ∙ sym (slice_mapped f (patched patch blocks) n ∙ ap (option_map f) (patched_behind patch blocks n past))
      ]

-- a place past the end holds nothing
pub set_past : {X : Type 0} (xs : List X) (n : ℕ) (x : X) → length xs ≤ n → set xs n x ≡ xs
set_past [] n x le = refl
set_past (y ∷ xs) zero x le = absurd (omega (arith, le))
set_past (y ∷ xs) (suc n) x le = ap (λ rest. y ∷ rest) (set_past xs n x (omega (arith, le)))

-- there is room for all where some come
pub room_of : {X : Type 0} (further : List X) (count room : ℕ) → (further ≡ []) ⊎ (count + length further ≤ room) → (length further ≡ 0 → ⊥)
    → count + length further ≤ room
room_of further count room (inl none) some = absurd (some (ap length none))
room_of further count room (inr fits) some = fits
