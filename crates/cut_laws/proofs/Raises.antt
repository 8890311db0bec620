-- What one raise does with the stamps.
use Rattle.std.proofs.Common.{◌≡◌, ℕ, ◌<◌, ◌≤◌, Bool, List, ◌⊎◌, inl, inr, arith}
use Rattle.std.proofs.Math.Nat.{le-max_left, le-max_right, max-le}
use Rattle.tree_laws.specs.declared.history.Entry.{Entry}
use Rattle.tree_laws.specs.Tree.{TreeState}
use Rattle.cut_laws.specs.Cut.{Cut, cut_of}
use Rattle.cut_laws.specs.Closure.{Counts, Flush, Closure, IsRaised}
use Rattle.cut_laws.proofs.Basics.{below_or}
use Rattle.sfs_base.proofs.BasicNumbers.{not_less}

module _ (first : TreeState) (history : List Entry) (counts : Counts) (cut : Cut) (inodes : ℕ → Bool) (flush : Flush) (raised : Cut)
    (raise : IsRaised first history counts cut inodes flush raised) where
  -- no stamp falls
  pub cuts_rise : (d : ℕ) → cut_of cut d ≤ cut_of raised d
  cuts_rise d = elim (raise.other d) [
    | inl own ↦ let e = raise.member d own in let le = le-max_left (cut_of cut d) flush.stamp in omega arith
    | inr e ↦ omega arith
  ]

  -- a member's is the fsync's at least
  pub members_rise : (d : ℕ) → Closure first history counts cut inodes flush d → flush.stamp ≤ cut_of raised d
  members_rise d own = let e = raise.member d own in let le = le-max_right (cut_of cut d) flush.stamp in omega arith

  -- a stamp below the raised cut was below the cut, or lies in a member's span
  pub was_or_spanned : (t d : ℕ) → t < cut_of raised d
      → (t < cut_of cut d) ⊎ (Closure first history counts cut inodes flush d × (cut_of cut d ≤ t) × (t < flush.stamp))
  was_or_spanned t d lt = elim (below_or t (cut_of cut d)) [
    | inl less ↦ inl less
    | inr le ↦ elim (raise.other d) [
      | inl own ↦
          inr (
            own,
            le,
            elim (below_or t flush.stamp) [
              | inl less ↦ less
              | inr more ↦
                  absurd (let most = max-le le more in let e = raise.member d own in not_less (same_below e) most)
            ],
          )
      | inr e ↦ absurd (not_less (same_below e) le)
    ]
  ]
    where
      same_below : {n : ℕ} → cut_of raised d ≡ n → t < n
      same_below e = omega arith
