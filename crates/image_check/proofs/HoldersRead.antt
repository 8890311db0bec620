-- The holders of directories, as each directory is written at those that its rows name.
use Rattle.std.proofs.Common.{◌≡◌, ℕ, ◌+◌, ◌<◌, ◌≤◌, List, length, Some, sym, subst, ◌∙◌, arith, inl, inr}
use Rattle.std.specs.Prelude.{slice_index}
use Rattle.std.proofs.lemmas.Bool.{cases_lt}
use Rattle.sfs_base.specs.Lists.{Roomy}
use Rattle.sfs_image.specs.Slot.{Row}
use Rattle.disk_tree.specs.Rows.{rows_of_inode}
use Rattle.image_check.specs.Climbs.{HasHolders, NamesAlone, named_directory}
use Rattle.image_check.specs.Writes.{Writes}

module _ (rows : List (Roomy Row)) where
  -- before the first directory nothing is asked
  pub none_hold : (above : List ℕ) → HasHolders rows 0 above
  none_hold above directory k x less = absurd (omega arith)

  module _ (n : ℕ) (old new : List ℕ) (first : HasHolders rows n old)
      (second : Writes old new 0 n (named_directory (rows_of_inode rows n)) (length (rows_of_inode rows n))) where
    earlier : (directory k x : ℕ) → directory < n → k < length (rows_of_inode rows directory)
        → named_directory (rows_of_inode rows directory) k ≡ Some x → NamesAlone rows (n + 1) directory x → slice_index new x ≡ directory
    earlier directory k x less inside names alone =
        let was = first directory k x less inside names (λ other j low within also. alone other j (omega arith) within also) in
        elim (second.rest x) [
          | inl same ↦ same ∙ was
          | inr one ↦ (let e = alone n one.k (omega arith) one.low one.target in absurd (omega arith))
        ]

    -- one more directory
    pub more_hold : HasHolders rows (n + 1) new
    more_hold directory k x less inside names alone = elim (cases_lt directory n) [
      | inl before ↦ earlier directory k x before inside names alone
      | inr here ↦
          (let e : n ≡ directory = omega arith in
          subst (λ (d : ℕ). k < length (rows_of_inode rows d) → named_directory (rows_of_inode rows d) k ≡ Some x → slice_index new x ≡ d) e
          (second.has k x) inside names)
    ]

    -- and no holder is beyond the last one
    pub low_hold : (count : ℕ) → n ≤ count → ((i : ℕ) → slice_index old i ≤ count) → (i : ℕ) → slice_index new i ≤ count
    low_hold count within low i = elim (second.rest i) [
      | inl same ↦ (let h = low i in subst (λ (k : ℕ). k ≤ count) (sym same) h)
      | inr one ↦ subst (λ (k : ℕ). k ≤ count) (sym one.stands) within
    ]
