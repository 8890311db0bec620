-- What holds of counts of faults and of moments.
use Rattle.std.proofs.Common.{◌≡◌, ◌⊎◌, ⊎_elim, ℕ, ◌+◌, ◌-◌, ◌^◌, ◌<◌, ◌≤◌, Bool, true, List, inl, inr, subst, sym, arith}
use Rattle.std.specs.Prelude.{◌↔◌, min}
use Rattle.std.proofs.lemmas.Bool.{cases_lt}
use Rattle.sfs_base.specs.Ends.{HasRisen}
use Rattle.sfs_dev.specs.Disk.{View, LeftSince, images}
use Rattle.sfs_dev.specs.Run.{EachMoment}
use Rattle.sfs_dev.specs.Laws.{HasMoments, HasBothEnds}

-- A count has risen, or stands at its last value.
pub counts_rise : (before now : ℕ) → now < 2 ^ 64 → HasRisen before now ↔ ((before < now) ⊎ (now ≡ 2 ^ 64 - 1))
counts_rise before now fits = (rises, stands)
  where
    rises : HasRisen before now → (before < now) ⊎ (now ≡ 2 ^ 64 - 1)
    rises risen = elim (cases_lt before now) [
      | inl later ↦ inl later
      | inr last ↦ inr (omega (arith, risen))
    ]

    stands : (before < now) ⊎ (now ≡ 2 ^ 64 - 1) → HasRisen before now
    stands told = elim told [
      | inl later ↦ omega arith
      | inr last ↦ omega arith
    ]

-- an image of one moment is one of another that is the same
at_moment : (disk : View) (k n : ℕ) (image : List ℕ) → k ≡ n → disk.crash_images k image → disk.crash_images n image
at_moment disk k n image is left = subst (λ (m : ℕ). disk.crash_images m image) is left

pub has_moments : (disk : View) → HasMoments disk
has_moments disk = record {
  present = λ image. (now_from image, λ left. (disk.now, omega arith, omega arith, left));
  earlier = λ t image before. (part_from t image before, join t image before);
  to_come = λ t image later left. let from = left.1 in let to = left.2 in omega arith;
}
  where
    now_from : (image : List ℕ) → LeftSince disk disk.now image → images disk image
    now_from image left = let from = left.1 in let to = left.2 in at_moment disk left.0 disk.now image (omega arith) left.3

    part_from : (t : ℕ) (image : List ℕ) → t < disk.now → LeftSince disk t image → disk.crash_images t image ⊎ LeftSince disk (t + 1) image
    part_from t image before left =
        let from = left.1 in
        let to = left.2 in
        elim (cases_lt t left.0) [
          | inl later ↦ inr (left.0, omega arith, to, left.3)
          | inr here ↦ inl (at_moment disk left.0 t image (omega arith) left.3)
        ]

    join : (t : ℕ) (image : List ℕ) → t < disk.now → disk.crash_images t image ⊎ LeftSince disk (t + 1) image → LeftSince disk t image
    join t image before told = elim told [
      | inl here ↦ (t, omega arith, omega arith, here)
      | inr later ↦ (let from = later.1 in (later.0, omega arith, later.2, later.3))
    ]

pub has_both_ends : (old new : View) → HasBothEnds old new
has_both_ends old new = record {
  first = λ test goes each image left. each old.now image (omega arith) goes left;
  last = λ test goes each image left. each new.now image goes (omega arith) left;
  since = λ test. (
    λ each image left. each left.0 image left.1 left.2 left.3,
    λ all k image from to left. all image (k, from, to, left),
  );
}
