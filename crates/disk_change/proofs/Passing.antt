-- What is passed on the way through a directory's blocks.
use Rattle.std.proofs.Common.{◌≡◌, ℕ, zero, suc, ◌+◌, ◌-◌, ◌<◌, ◌≤◌, Bool, true, false, cond, ◌&&◌, ◌||◌, List, [], ◌∷◌, ◌++◌, length, get_or, reverse, filter_map, Option, Some, None, is_none, is_some, inl, inr, ◌⊎◌, refl, sym, ap, subst, ◌∙◌, arith, nat_eq, nat_lt, Contains}
use Rattle.std.specs.Prelude.{not, nat_le, slice_get, bytes_eq}
use Rattle.std.specs.List.{list_any, range_with_len, find}
use Rattle.std.specs.List.Sorted.{IsNonDecreasingBy, IsPartitionPoint}
use Rattle.std.proofs.lemmas.Bool.{cases_Bool, cases_lt, lt-leb}
use Rattle.std.proofs.lemmas.List.{get_or_default}
use Rattle.std.proofs.lemmas.List.Folds.{Any-from_list_any, list_any_at}
use Rattle.absorb.specs.declared.nets.NetRow.{NetRow}
use Rattle.image_laws.specs.Commit.{row_in_net}
use Rattle.block_map.proofs.Places.{one_more_none}
use Rattle.sfs_base.proofs.BasicOptions.{none_some, some_same}
use Rattle.sfs_base.proofs.BasicTruth.{false_not_true, true_not_false}
use Rattle.sfs_image.specs.Slot.{Row}
use borrow.Author.Tests.{ltb-true, ltb-false}
use Rattle.keyed_list.specs.Ascending.{AscendBy, item_with}
use Rattle.keyed_list.proofs.Searched.{no_item}
use Rattle.disk_nodes.specs.Indexed.{has_name, slot_has_name}
use Rattle.disk_change.specs.Directory.{is_in_net}
use Rattle.disk_change.specs.Patched.{AreNamed, IsPassed, SlotsPatch, TellsTouched, patched}
use Rattle.disk_change.specs.Seat.{block_said, blocks_to_last_row}
use Rattle.disk_change.proofs.Rewriting.{behind_by}
use Rattle.disk_change.proofs.Untouched.{Stays, stays_full, stays_unwaited}

-- the first of numbers that rise which is not below a number
module _ (numbers : List ℕ) (from at : ℕ) (rise : IsNonDecreasingBy (λ n. n) numbers)
    (parted : IsPartitionPoint (λ n. nat_lt n from ≡ true) (λ n. nat_lt n from ≡ false) numbers at) where
  pub first_above : (number : ℕ) → at < length numbers → number ≡ get_or numbers at number
      → (from ≤ number) × ((n : ℕ) → from ≤ n → n < number → Contains numbers n → ⊥)
  first_above number low is =
      let above = ltb-false (get_or numbers at number) from (parted.1 at number (omega arith) low) in (
        omega (arith, is, above),
        λ n over under has. elim (cases_lt has.0 at) [
          | inl before ↦
              let below = ltb-true (get_or numbers has.0 n) from (parted.0 has.0 n (omega arith) before) in
              let same = has.2 in omega (arith, below, same, over)
          | inr behind ↦
              let more = rise at has.0 n behind has.1 in
              let same = has.2 in let own = get_or_default numbers at n number low in omega (arith, more, same, own, is, under)
        ],
      )

  pub none_above : length numbers ≤ at → (n : ℕ) → from ≤ n → Contains numbers n → ⊥
  none_above past n over has =
      let low = has.1 in
      let below = ltb-true (get_or numbers has.0 n) from (parted.0 has.0 n (omega arith) (omega (arith, past, low))) in
      let same = has.2 in omega (arith, below, same, over)

-- no item has a number between one and that of the first item above it
pub none_between : {X : Type 0} (key : X → ℕ) (items : List X) (up : AscendBy key items) (from at n : ℕ)
    → IsPartitionPoint (λ one. nat_lt (key one) from ≡ true) (λ one. nat_lt (key one) from ≡ false) items at → from ≤ n
    → ((d : X) → at < length items → n < key (get_or items at d)) → item_with key n items ≡ None
none_between key items up from at n parted over under =
    no_item key items n (λ k d low same. elim (cases_lt k at) [
      | inl before ↦
          let below = ltb-true (key (get_or items k d)) from (parted.0 k d (omega arith) before) in omega (arith, below, same, over)
      | inr behind ↦
          let first = under d (omega (arith, behind, low)) in
          elim (cases_lt at k) [
            | inl less ↦ let more = up at k d less low in omega (arith, more, first, same)
            | inr equal ↦
                let is : k ≡ at = omega (arith, equal, behind) in
                let own = ap (λ m. key (get_or items m d)) is in omega (arith, own, first, same)
          ]
    ])

-- a function that gives nothing between two places gives as much up to either
pub nothing_between : {X : Type 0} (f : ℕ → Option X) (a b : ℕ) → a ≤ b → ((k : ℕ) → a ≤ k → k < b → f k ≡ None)
    → filter_map f (range_with_len 0 b) ≡ filter_map f (range_with_len 0 a)
nothing_between f a b le none =
    ap (λ n. filter_map f (range_with_len 0 n)) (let e : b ≡ a + (b - a) = omega (arith, le) in e) ∙ by_count (b - a) (omega (arith, le))
  where
    by_count : (c : ℕ) → a + c ≤ b → filter_map f (range_with_len 0 (a + c)) ≡ filter_map f (range_with_len 0 a)
    by_count zero low = ap (λ n. filter_map f (range_with_len 0 n)) (let e : a + 0 ≡ a = omega arith in e)
    by_count (suc c) low =
        ap (λ n. filter_map f (range_with_len 0 n)) (let e : a + suc c ≡ a + c + 1 = omega arith in e)
        ∙ one_more_none f (a + c) (none (a + c) (omega arith) (omega (arith, low))) ∙ by_count c (omega (arith, low))

-- nothing is said of a block that is passed
pub said_passed : (pointers : ℕ → ℕ) (slots : List (List (Option Row))) (patch : SlotsPatch) (touched : List Bool) (end n : ℕ)
    → TellsTouched slots patch touched → end ≡ blocks_to_last_row (patched patch slots) → IsPassed slots patch end n
    → block_said pointers (patched patch slots) touched n ≡ None
said_passed pointers slots patch touched end n told at passed =
    behind_by pointers (patched patch slots) touched n end at (told.there n passed.there ∙ ap is_some passed.stays)
    (ap (λ b. b && not (nat_eq (pointers n) 0)) (lt-leb end n passed.before))

-- a block that is passed on the way for a net stays
pub stays_passed : (directories : List ℕ) (net : List NetRow) (slots : List (List (Option Row))) (named : List ℕ) (waiting : List Row) (n : ℕ)
    → AreNamed net slots named → n < length slots
    → (Contains named n → ⊥) × ((waiting ≡ []) ⊎ (list_any is_none (get_or slots n []) ≡ false)) → Stays directories net (get_or slots n []) (reverse waiting)
stays_passed directories net slots named waiting n are within passed = by passed.1
  where
    none : list_any (is_in_net net) (get_or slots n []) ≡ false
    none = elim (cases_Bool (list_any (is_in_net net) (get_or slots n []))) [
      | inl some ↦ absurd (passed.0 (are.each n within some))
      | inr not_named ↦ not_named
    ]

    by : (waiting ≡ []) ⊎ (list_any is_none (get_or slots n []) ≡ false) → Stays directories net (get_or slots n []) (reverse waiting)
    by (inl nothing) = stays_unwaited directories net (get_or slots n []) (reverse waiting) none (ap reverse nothing)
    by (inr full) = stays_full directories net (get_or slots n []) (reverse waiting) none full

-- a row that a net has is one of its rows
found_any : {X : Type 0} (p : X → Bool) (xs : List X) → is_some (find p xs) ≡ true → list_any p xs ≡ true
found_any p [] e = absurd (false_not_true e)
found_any {X} p (x ∷ xs) e = by (p x) (found_any p xs) e
  where
    by : (b : Bool) → (is_some (find p xs) ≡ true → list_any p xs ≡ true) → is_some (cond b (Some x) (find p xs)) ≡ true → (b || list_any p xs) ≡ true
    by true rest e = refl
    by false rest e = rest e

-- A row of a net whose name a block has.
pub record HasRowOf (net : List NetRow) (block : List (Option Row)) : Type 0 where
  pub place : ℕ
  pub row : NetRow
  pub within : place < length net
  pub has : has_name (get_or net place row).name block ≡ true

-- a block with a name of a net has that of one of its rows
pub row_of_net : (net : List NetRow) (block : List (Option Row)) → list_any (is_in_net net) block ≡ true → HasRowOf net block
row_of_net net block some =
    let any = Any-from_list_any (is_in_net net) block some in
    by_slot any.0 any.1 any.2 any.3 any.1 refl any.4
  where
    by_slot : (k : ℕ) (slot : Option Row) → k < length block → get_or block k slot ≡ slot → (own : Option Row) → slot ≡ own → is_in_net net own ≡ true
        → HasRowOf net block
    by_slot k slot low at None is e = absurd (false_not_true e)
    by_slot k slot low at (Some row) is e =
        let any = Any-from_list_any (λ one. bytes_eq row.name one.name) net (found_any (λ one. bytes_eq row.name one.name) net e) in
        record {
          place = any.0;
          row = any.1;
          within = any.2;
          has =
              list_any_at (slot_has_name (get_or net any.0 any.1).name) block k slot low
              (ap (slot_has_name (get_or net any.0 any.1).name) (at ∙ is) ∙ ap (λ (one : NetRow). bytes_eq row.name one.name) any.3 ∙ any.4);
        }
