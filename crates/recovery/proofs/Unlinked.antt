-- The inodes of link count 0, one after another.
use Rattle.std.proofs.Common.{◌≡◌, ℕ, ◌+◌, ◌<◌, ◌++◌, ◌∷◌, [], cond, List, map, get_or, slice_index_or, sym, refl, ap, ap₂, subst, ◌∙◌, arith}
use Rattle.std.specs.List.{range_with_len, filter}
use Rattle.std.specs.List.Sorted.{IsStrictlyIncreasing}
use Rattle.std.proofs.lemmas.List.Elements.{filter-append}
use Rattle.std.proofs.lemmas.List.FromFn.{length-range_with_len, get_or-range_with_len}
use Rattle.std.proofs.lemmas.List.Kept.{IsStrictlyIncreasing-filter}
use Rattle.fmt_journal.specs.declared.tx.TxRecord.{TxRecord}
use Rattle.sfs_image.specs.Journal.{Entry}
use Rattle.sfs_image.proofs.BytesLaws.{zeros-is}
use Rattle.journal_one.specs.Packed.{record_entry}
use Rattle.sfs_base.proofs.BasicNumbers.{zero_plus}
use Rattle.block_map.proofs.Places.{range_more}
use Rattle.recovery.specs.Freed.{is_unlinked, unlinked_below, free_record, free_entry}

-- none of no inodes
pub none_unlinked : (records : List (List ℕ)) → unlinked_below records 0 ≡ []
unfolding unlinked_below
none_unlinked records = refl

-- one inode more
pub next_unlinked : (records : List (List ℕ)) (n : ℕ)
    → unlinked_below records n ++ cond (is_unlinked (slice_index_or records n [])) (n ∷ []) [] ≡ unlinked_below records (n + 1)
unfolding unlinked_below
next_unlinked records n =
    sym (filter-append (λ i. is_unlinked (slice_index_or records i [])) (range_with_len 0 n) (n ∷ []))
    ∙ ap (filter (λ i. is_unlinked (slice_index_or records i []))) (sym (range_more 0 n ∙ ap (λ k. range_with_len 0 n ++ k ∷ []) (zero_plus n)))

-- they ascend
pub unlinked_ascend : (records : List (List ℕ)) (n : ℕ) → IsStrictlyIncreasing (unlinked_below records n)
unfolding unlinked_below
unlinked_ascend records n = IsStrictlyIncreasing-filter (λ i. is_unlinked (slice_index_or records i [])) (range_with_len 0 n) (λ k less.
    subst (λ m. m < get_or (range_with_len 0 n) (k + 1) 0) (sym (get_or-range_with_len 0 n k 0 (let l = less in omega (arith, length-range_with_len 0 n))))
    (subst (λ m. 0 + k < m) (sym (get_or-range_with_len 0 n (k + 1) 0 (let l = less in omega (arith, length-range_with_len 0 n))))
    (let lt : 0 + k < 0 + (k + 1) = omega arith in lt)))

-- free records for inodes: their numbers, and what a slot has of them
pub free_numbers : (inodes : List ℕ) → map (λ (r : TxRecord). r.inode) (map free_record inodes) ≡ inodes
free_numbers [] = refl
free_numbers (inode ∷ rest) = ap (λ (l : List ℕ). inode ∷ l) (free_numbers rest)

pub free_entries : (inodes : List ℕ) → map record_entry (map free_record inodes) ≡ map free_entry inodes
free_entries [] = refl
free_entries (inode ∷ rest) = ap₂ (λ (e : Entry) (l : List Entry). e ∷ l) (λ i. record { inode = inode; bytes = sym (zeros-is 512) i }) (free_entries rest)

-- what is in no list ascends
pub none_ascend : (items : List ℕ) → items ≡ [] → IsStrictlyIncreasing items
none_ascend items none = subst IsStrictlyIncreasing (sym none) (λ k less. absurd (omega arith))
