-- The rules across inodes one after another, and what stands between them.
use Rattle.std.proofs.Common.{◌≡◌, ℕ, zero, suc, ◌+◌, ◌*◌, ◌<◌, ◌≤◌, Bool, false, not, ltb, List, [], length, ap, subst, arith, inl, inr}
use Rattle.std.specs.Prelude.{slice_index_or}
use Rattle.std.specs.List.{list_any}
use Rattle.std.proofs.lemmas.Bool.{cases_lt, le-ltb, or_left}
use Rattle.std.proofs.lemmas.List.Folds.{list_any_at}
use Rattle.sfs_base.proofs.BasicTruth.{not_both_of}
use Rattle.sfs_base.specs.Lists.{Roomy}
use Rattle.sfs_image.specs.Inode.{Inode}
use Rattle.sfs_image.specs.Slot.{Row}
use Rattle.disk_tree.specs.First.{IsFirst, NonePasses}
use Rattle.disk_tree.specs.Ordered.{AreFewRows, BreaksFirst, KeepEarlier, breaks_numbered}
use Rattle.disk_tree.specs.Rows.{is_misplaced_by, named_rows, rows_of_inode}

module _ (inodes : List Inode) (rows : List (Roomy Row)) where
  -- no rule across inodes comes before the eighth
  none_earlier : (reached : List Bool) → KeepEarlier inodes rows reached 8
  none_earlier reached earlier i low less within = absurd (omega arith)

  -- one more rule that no inode breaks
  pub more_kept : (reached : List Bool) (rule : ℕ) → KeepEarlier inodes rows reached rule
      → NonePasses (length inodes) (breaks_numbered inodes rows reached rule) →
      KeepEarlier inodes rows reached (rule + 1)
  more_kept reached rule kept none earlier i low less within = elim (cases_lt earlier rule) [
    | inl before ↦ kept earlier i low before within
    | inr here ↦ (let same : rule ≡ earlier = omega arith in subst (λ (r : ℕ). breaks_numbered inodes rows reached r i ≡ false) same (none i within))
  ]

  -- the first inode that breaks a rule before the last one
  pub breaks_at : (rule i : ℕ) → 8 ≤ rule → rule < 14 → KeepEarlier inodes rows [] rule → IsFirst (length inodes) (breaks_numbered inodes rows [] rule) i
      → BreaksFirst inodes rows i rule
  breaks_at rule i low high kept first = record {
    low = low;
    high = omega arith;
    reached = [];
    marks = λ last. absurd (omega arith);
    earlier = kept;
    first = first;
  }

  module _ (count : length rows ≡ length inodes) (eighth : NonePasses (length rows) (breaks_numbered inodes rows [] 8)) where
    pub kept_8 : KeepEarlier inodes rows [] 9
    kept_8 = more_kept [] 8 (none_earlier []) (λ i within. eighth i (omega arith))

    module _ (ninth : NonePasses (length rows) (breaks_numbered inodes rows [] 9)) where
      pub kept_9 : KeepEarlier inodes rows [] 10
      kept_9 = more_kept [] 9 kept_8 (λ i within. ninth i (omega arith))

      module _ (tenth : NonePasses (length rows) (breaks_numbered inodes rows [] 10)) where
        pub kept_10 : KeepEarlier inodes rows [] 11
        kept_10 = more_kept [] 10 kept_9 (λ i within. tenth i (omega arith))

  -- a row that is not misplaced names one of the inodes
  placed_within : (own : List Row) → list_any (is_misplaced_by inodes) own ≡ false → (k : ℕ) (d : Row) → k < length own
      → (slice_index_or own k d).inode < length inodes
  placed_within own none k d less = elim (cases_lt (slice_index_or own k d).inode (length inodes)) [
    | inl within ↦ within
    | inr beyond ↦ absurd (not_both_of (list_any (is_misplaced_by inodes) own)
        (list_any_at (is_misplaced_by inodes) own k d less (or_left (not (ltb (slice_index_or own k d).inode (length inodes))) _ (ap not (le-ltb _ _ beyond))))
        none)
  ]

  pub rows_within : KeepEarlier inodes rows [] 12 → (i : ℕ) → i < length inodes → (k : ℕ) (d : Row) → k < length (rows_of_inode rows i)
      → (slice_index_or (rows_of_inode rows i) k d).inode < length inodes
  rows_within kept i within = placed_within (rows_of_inode rows i) (kept 10 i (omega arith) (omega arith) within)

-- the directories have no more rows than their blocks have slots
pub few_rows : (rows : List (Roomy Row)) → AreFewRows rows → (n : ℕ) → named_rows rows n ≤ 32775 * n
few_rows rows few zero = omega arith
few_rows rows few (suc n) = (let h = few_rows rows few n in let own = few n in omega arith)

pub few_named : (rows : List (Roomy Row)) → AreFewRows rows → length rows ≤ 16384 → named_rows rows (length rows) < 4294967296
few_named rows few many = (let h = few_rows rows few (length rows) in omega arith)
