-- What is kept of the inodes in use once orphans are freed.
use Rattle.std.proofs.Common.{◌≡◌, ℕ, zero, suc, ◌+◌, ◌*◌, ◌<◌, ◌≤◌, Bool, true, false, not, cond, List, [], ◌∷◌, length, slice_index_or, filter_map, Option, None, Some, refl, sym, ◌∙◌, ap, arith, inl, inr}
use Rattle.std.specs.List.{range_with_len, filter, cons_option}
use Rattle.std.proofs.lemmas.Bool.{cases_Bool}
use Rattle.std.proofs.lemmas.List.Filters.{length-filter_both}
use Rattle.std.proofs.lemmas.List.FromFn.{length-range_with_len}
use Rattle.std.proofs.lemmas.Nat.{mul-le}
use Rattle.sfs_image.specs.declared.limits.TheConstants.{MOST_SLOTS}
use Rattle.sfs_image.specs.Part.{Part, is_free_part}
use Rattle.sfs_image.specs.Settled.{settled, slot_count}
use Rattle.sfs_image.specs.Super.{Layout, InRange}
use Rattle.block_map.specs.Kept.{kept_of}
use Rattle.disk_tree.specs.KeptParts.{NumberedKept, kept_if_used, kept_in_use}
use Rattle.recovery.specs.Freed.{is_unlinked, unlinked_below, unlinked_in, orphans_of, is_linked_kept, free_part, without_unlinked}
use Rattle.recovery.proofs.FreePart.{free_is_free}

-- what is kept of an inode in use
abbrev kept_at : (ℕ → Part) → ℕ → NumberedKept
kept_at parts i = record { number = i; kept = kept_of (parts i) }

-- what is left out of a list with one more in front, and what is kept in it
left_out : (free : Bool) (one : NumberedKept) (others : List NumberedKept) → is_linked_kept one ≡ false
    → filter is_linked_kept (cons_option (cond free None (Some one)) others) ≡ filter is_linked_kept others
left_out true one others fails = refl
left_out false one others fails = ap (λ b. cond b (one ∷ filter is_linked_kept others) (filter is_linked_kept others)) fails

kept_in : (free : Bool) (one : NumberedKept) (others : List NumberedKept) → is_linked_kept one ≡ true
    → filter is_linked_kept (cons_option (cond free None (Some one)) others) ≡ cons_option (cond free None (Some one)) (filter is_linked_kept others)
kept_in true one others passes = refl
kept_in false one others passes = ap (λ b. cond b (one ∷ filter is_linked_kept others) (filter is_linked_kept others)) passes

module _ (parts : ℕ → Part) (i : ℕ) where
  abbrev used : Part → Option NumberedKept
  used part = cond (is_free_part part) None (Some (record { number = i; kept = kept_of part }))

  orphan_out : is_unlinked (parts i).raw ≡ true → kept_if_used (without_unlinked parts) i ≡ None
  orphan_out orphan =
      ap used (ap (λ b. cond b free_part (parts i)) orphan) ∙ ap (λ b. cond b None (Some (record { number = i; kept = kept_of free_part }))) free_is_free

  linked_in : is_unlinked (parts i).raw ≡ false → kept_if_used (without_unlinked parts) i ≡ kept_if_used parts i
  linked_in linked = ap used (ap (λ b. cond b free_part (parts i)) linked)

  -- one inode more in front of others
  next_kept : (others with_out : List NumberedKept) → filter is_linked_kept others ≡ with_out
      → filter is_linked_kept (cons_option (kept_if_used parts i) others) ≡ cons_option (kept_if_used (without_unlinked parts) i) with_out
  next_kept others with_out later = elim (cases_Bool (is_unlinked (parts i).raw)) [
    | inl orphan ↦
        left_out (is_free_part (parts i)) (kept_at parts i) others (ap not orphan) ∙ later
        ∙ sym (ap (λ (o : Option NumberedKept). cons_option o with_out) (orphan_out orphan))
    | inr linked ↦ kept_in (is_free_part (parts i)) (kept_at parts i) others (ap not linked) ∙ ap (cons_option (kept_if_used parts i)) later
        ∙ sym (ap (λ (o : Option NumberedKept). cons_option o with_out) (linked_in linked))
  ]

-- what is kept without orphans is what is kept of the parts without them
pub kept_linked : (count : ℕ) (parts : ℕ → Part) → filter is_linked_kept (kept_in_use count parts) ≡ kept_in_use count (without_unlinked parts)
unfolding kept_in_use
kept_linked count parts = over (range_with_len 0 count)
  where
    over : (numbers : List ℕ) → filter is_linked_kept (filter_map (kept_if_used parts) numbers) ≡ filter_map (kept_if_used (without_unlinked parts)) numbers
    over [] = refl
    over (i ∷ rest) = next_kept parts i (filter_map (kept_if_used parts) rest) (filter_map (kept_if_used (without_unlinked parts)) rest) (over rest)

-- tests that agree on the numbers from a on let pass the same of them
filter_in_range : (test other : ℕ → Bool) (a n : ℕ) → ((k : ℕ) → a ≤ k → k < a + n → test k ≡ other k)
    → filter test (range_with_len a n) ≡ filter other (range_with_len a n)
filter_in_range test other a zero agree = refl
filter_in_range test other a (suc n) agree =
    ap (λ b. cond b (a ∷ filter test (range_with_len (a + 1) n)) (filter test (range_with_len (a + 1) n))) (agree a (omega arith) (omega arith))
    ∙ ap (λ (l : List ℕ). cond (other a) (a ∷ l) l) (filter_in_range test other (a + 1) n (λ k low high. agree k (omega arith) (omega arith)))

-- they are no more than the records
pub unlinked_few : (records : List (List ℕ)) → length (unlinked_in records) ≤ length records
unfolding unlinked_below
unlinked_few records =
    let n = length records in
    let test : ℕ → Bool = λ i. is_unlinked (slice_index_or records i []) in
    let both = length-filter_both test (λ i. not (test i)) (λ i. refl) (range_with_len 0 n) in
    let all = length-range_with_len 0 n in
    omega (arith, both, all)

-- a disk has few journal slots
pub slots_few : (layout : Layout) → InRange layout → slot_count layout ≤ 16 * MOST_SLOTS
slots_few layout ranges = mul-le layout.cores layout.slots 16 MOST_SLOTS ranges.cores_high ranges.slots_high

-- the unlinked inodes of settled records are the orphans of the image
pub orphans_are_those : (layout : Layout) (image : List ℕ) (records : List (List ℕ)) → length records ≡ layout.inodes
    → ((i : ℕ) → i < layout.inodes → slice_index_or records i [] ≡ settled layout image i)
    → unlinked_in records ≡ orphans_of layout image
unfolding unlinked_below orphans_of
orphans_are_those layout image records count each =
    ap (λ n. filter (λ i. is_unlinked (slice_index_or records i [])) (range_with_len 0 n)) count
    ∙ filter_in_range (λ i. is_unlinked (slice_index_or records i [])) (λ i. is_unlinked (settled layout image i)) 0 layout.inodes
    (λ k low high. ap is_unlinked (each k (omega arith)))
