-- Which indirect blocks are rewritten, and which have a pointer.
use Rattle.std.proofs.Common.{◌≡◌, ◌≢◌, ℕ, zero, suc, ◌+◌, ◌-◌, ◌<◌, ◌≤◌, Bool, true, false, not, ◌&&◌, ◌||◌, List, length, get_or, Option, Some, None, is_some, inl, inr, refl, sym, ap, subst, ◌∙◌, arith, nat_lt, nat_eq}
use Rattle.std.specs.Prelude.{nat_le}
use Rattle.std.specs.List.{range_with_len, list_any}
use Rattle.std.specs.Option.{option_map_or}
use Rattle.std.proofs.lemmas.Bool.{cases_lt}
use Rattle.std.proofs.lemmas.Bool.Decides.{nat_tests}
use borrow.Author.Tests.{ltb-true, leb-true}
use Rattle.sfs_base.proofs.BasicTruth.{and_first as first, and_second as second, or_true}
use Rattle.std.proofs.lemmas.List.{same_lists, get_or-set_same, get_or-set_other}
use Rattle.std.proofs.Math.ListN.{set}
use Rattle.sfs_image.specs.Inode.{Inode, Table}
use Rattle.sfs_image.specs.Part.{tabulate}
use Rattle.sfs_image.proofs.Basics.{length-tabulate, get_or-tabulate}
use Rattle.image_laws.specs.Need.{Rewrite, changes_pointer, has_pointer, table_blocks, first_block}
use Rattle.block_map.specs.declared.changed.ChangedBlock.{ChangedBlock}
use Rattle.block_map.specs.Changed.{change_of, AscendByBlock}
use Rattle.block_map.specs.Kept.{pointer_kept}
use Rattle.block_map.specs.Remap.{rewrite_of, touches_table}
use Rattle.block_map.proofs.Changes.{change_at, change_stands}

-- no number of a range passes a test that none of them passes
pub none_in_range : (p : ℕ → Bool) (a n : ℕ) → ((m : ℕ) → a ≤ m → m < a + n → p m ≡ false) → list_any p (range_with_len a n) ≡ false
none_in_range p a zero none = refl
none_in_range p a (suc n) none =
    (λ i. none a (omega arith) (omega arith) i || list_any p (range_with_len (a + 1) n))
    ∙ none_in_range p (a + 1) n (λ m ge lt. none m (omega arith) (omega arith))

-- and one does where it does
pub some_in_range : (p : ℕ → Bool) (a n m : ℕ) → a ≤ m → m < a + n → p m ≡ true → list_any p (range_with_len a n) ≡ true
some_in_range p a zero m ge lt t = absurd (omega arith)
some_in_range p a (suc n) m ge lt t = elim (cases_lt a m) [
  | inl less ↦ ap (λ b. p a || b) (some_in_range p (a + 1) n m (omega arith) (omega arith) t) ∙ or_true (p a)
  | inr le ↦ let same : m ≡ a = omega arith in (λ i. (sym (ap p same) ∙ t) i || list_any p (range_with_len (a + 1) n))
]

module _ (inode : Inode) (tables : List Table) (changed : List ChangedBlock) (up : AscendByBlock changed) (k : ℕ) where
  abbrev rewrite : Rewrite
  rewrite = rewrite_of inode tables changed

  abbrev touches : ChangedBlock → Bool
  touches = touches_table (pointer_kept inode tables) k

  -- one rewritten block that changes a pointer settles it
  pub touched : (i : ℕ) (d : ChangedBlock) → i < length changed → touches (get_or changed i d) ≡ true
      → true ≡ list_any (changes_pointer rewrite) (table_blocks k)
  unfolding table_blocks
  touched i d within t =
      let one = get_or changed i d in
      let inside : first_block k ≤ one.block × (one.block < first_block k + 1024) =
      let at = first (nat_le (first_block k) one.block && nat_lt one.block (first_block k + 1024)) _ t in
      (leb-true (first_block k) one.block (first _ _ at), ltb-true one.block (first_block k + 1024) (second (nat_le (first_block k) one.block) _ at)) in
      let changes : changes_pointer rewrite one.block ≡ true =
      ap (λ o. is_some o && (not (option_map_or (λ one. one.is_zero) o false) || not (nat_eq (pointer_kept inode tables one.block) 0)))
      (change_at changed up i d within)
      ∙ second (nat_le (first_block k) one.block && nat_lt one.block (first_block k + 1024)) _ t in
      sym (some_in_range (changes_pointer rewrite) (first_block k) 1024 one.block inside.0 inside.1 changes)

  -- and where none does no pointer changes
  pub untouched : ((i : ℕ) (d : ChangedBlock) → i < length changed → touches (get_or changed i d) ≡ false)
      → false ≡ list_any (changes_pointer rewrite) (table_blocks k)
  unfolding table_blocks
  untouched none = sym (none_in_range (changes_pointer rewrite) (first_block k) 1024 stays)
    where
      by_said : (m : ℕ) → first_block k ≤ m → m < first_block k + 1024 → (said : Option ChangedBlock) → change_of changed m ≡ said
          → (is_some said && (not (option_map_or (λ one. one.is_zero) said false) || not (nat_eq (pointer_kept inode tables m) 0))) ≡ false
      by_said m ge lt None e = refl
      by_said m ge lt (Some one) e =
          let found = change_stands changed m one e in
          let at : touches one ≡ false = ap touches (sym (found.3 one)) ∙ none found.0 one found.1 in
          let here : (nat_le (first_block k) m && nat_lt m (first_block k + 1024)) ≡ true = grind (arith, nat_tests) in
          let moved : ((nat_le (first_block k) m && nat_lt m (first_block k + 1024)) && (not one.is_zero || not (nat_eq (pointer_kept inode tables m) 0)))
          ≡ false
          =
          subst (λ (b : ℕ).
          ((nat_le (first_block k) b && nat_lt b (first_block k + 1024)) && (not one.is_zero || not (nat_eq (pointer_kept inode tables b) 0)))
          ≡ false)
          found.2 at in
          sym (ap (λ t. t && (not one.is_zero || not (nat_eq (pointer_kept inode tables m) 0))) here) ∙ moved

      stays : (m : ℕ) → first_block k ≤ m → m < first_block k + 1024 → changes_pointer rewrite m ≡ false
      stays m ge lt = by_said m ge lt (change_of changed m) refl

-- an indirect block has a pointer where an entry has one
pub pointer_found : (rewrite : Rewrite) (k entry : ℕ) → entry < 1024 → has_pointer rewrite (first_block k + entry) ≡ true
    → true ≡ list_any (has_pointer rewrite) (table_blocks k)
unfolding table_blocks
pointer_found rewrite k entry within t = sym (some_in_range (has_pointer rewrite) (first_block k) 1024 (first_block k + entry) (omega arith) (omega arith) t)

-- and none where no entry has
pub no_pointer_found : (rewrite : Rewrite) (k : ℕ) → ((entry : ℕ) → entry < 1024 → has_pointer rewrite (first_block k + entry) ≡ false)
    → false ≡ list_any (has_pointer rewrite) (table_blocks k)
unfolding table_blocks
no_pointer_found rewrite k none = sym (none_in_range (has_pointer rewrite) (first_block k) 1024 (λ m ge lt.
    let back : first_block k + (m - first_block k) ≡ m = omega arith in
    sym (ap (has_pointer rewrite) back) ∙ none (m - first_block k) (omega arith)))

-- a list that has what a function gives at each place is tabulated
pub tabulated : {A : Type 0} (n : ℕ) (f : ℕ → A) (xs : List A) → length xs ≡ n → ((k : ℕ) (d : A) → k < n → get_or xs k d ≡ f k) → xs ≡ tabulate n f
tabulated n f xs count each =
    let long = length-tabulate n f in
    same_lists xs (tabulate n f) (count ∙ sym long) (λ k d within. let below : k < n = omega arith in each k d below ∙ sym (get_or-tabulate n f k d below))

-- one more place of a list is written with what a function gives there
pub set_more : {A : Type 0} (xs : List A) (i : ℕ) (x : A) (f : ℕ → A) → i < length xs → ((j : ℕ) (d : A) → j < i → get_or xs j d ≡ f j) → x ≡ f i
    → (j : ℕ) (d : A) → j < i + 1 → get_or (set xs i x) j d ≡ f j
set_more xs i x f within each is j d lt = elim (cases_lt j i) [
  | inl below ↦ let other : j ≢ i = omega arith in get_or-set_other xs i j x d other ∙ each j d below
  | inr ge ↦ let here : j ≡ i = omega arith in ap (λ k. get_or (set xs i x) k d) here ∙ get_or-set_same xs i x d within ∙ is ∙ ap f (sym here)
]
