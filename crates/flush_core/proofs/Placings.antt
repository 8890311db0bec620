-- The last change that places a node, found by going over the changes.
use Rattle.std.proofs.Common.{◌≡◌, ℕ, ◌+◌, ◌<◌, List, length, take, get_or, Option, Some, None, inl, inr, refl, sym, ap, arith}
use Rattle.flush_core.specs.declared.past.OwnChange.{OwnChange}
use Rattle.flush_core.specs.Broken.{PlacesBelow, IsLatest, later}
use Rattle.cut_laws.proofs.Basics.{below_or}
use Rattle.cut_laws.proofs.Listed.{one_more, still_one, next_one}

same_stamp : (change other : OwnChange) → change ≡ other → other.stamp ≡ change.stamp
same_stamp change other e = ap (λ (c : OwnChange). c.stamp) (sym e)

-- one more change places the node
pub latest_more : (changes : List OwnChange) (i : ℕ) (node below : ℕ) (d v : OwnChange) → i < length changes → v ≡ get_or changes i d → (last : Option ℕ)
    → IsLatest (take i changes) node below last → PlacesBelow node below v → IsLatest (take (i + 1) changes) node below (Some (later last v.stamp))
latest_more changes i node below d v lt is None none places = (
  (v, next_one changes i d v lt is, places, refl),
  λ other one other_places. elim (one_more changes i d v other lt is one) [
    | inl before ↦ absurd (none other before other_places)
    | inr e ↦ let same = same_stamp v other e in omega arith
  ],
)
latest_more changes i node below d v lt is (Some stamp) latest places = (
  elim (below_or stamp v.stamp) [
    | inl less ↦ (v, next_one changes i d v lt is, places, omega arith)
    | inr more ↦ let was = latest.0 in (was.0, still_one changes i d was.0 lt was.1, was.2, let same = was.3 in omega arith)
  ],
  λ other one other_places. elim (one_more changes i d v other lt is one) [
    | inl before ↦ let le = latest.1 other before other_places in omega arith
    | inr e ↦ let same = same_stamp v other e in omega arith
  ],
)

-- one more change does not
pub latest_skip : (changes : List OwnChange) (i : ℕ) (node below : ℕ) (d v : OwnChange) → i < length changes → v ≡ get_or changes i d → (last : Option ℕ)
    → IsLatest (take i changes) node below last → (PlacesBelow node below v → ⊥) → IsLatest (take (i + 1) changes) node below last
latest_skip changes i node below d v lt is None none not = λ other one places. elim (one_more changes i d v other lt is one) [
  | inl before ↦ none other before places
  | inr e ↦ not (rw e places)
]
latest_skip changes i node below d v lt is (Some stamp) latest not = (
  let was = latest.0 in (was.0, still_one changes i d was.0 lt was.1, was.2, was.3),
  λ other one places. elim (one_more changes i d v other lt is one) [
    | inl before ↦ latest.1 other before places
    | inr e ↦ absurd (not (rw e places))
  ],
)
