-- How runs of device calls follow one another.
use Rattle.std.proofs.Common.{◌≡◌, ⊎_elim, ℕ, ◌^◌, ◌<◌, ◌≤◌, List, Result, refl, ◌∙◌, subst, sym, arith}
use Rattle.std.proofs.lemmas.Bool.{cases_lt}
use Rattle.sfs_dev.specs.Disk.{View, SameImages, Elapses, IsDeviceCall, images}
use Rattle.sfs_dev.specs.Run.{CountsOn, Advances, EachMoment, Unwritten}

-- no device call
pub GoesOn-refl : (disk : View) → Advances disk disk
GoesOn-refl disk = record { size = refl; later = omega arith; never_falls = omega arith; past = λ k image lt le. (λ left. left, λ left. left) }

-- one device call
pub GoesOn-call : (old new : View) → old.now < 2 ^ 64 → Elapses old new → new.size ≡ old.size → old.faults ≤ new.faults → Advances old new
GoesOn-call old new fits time size faults = record {
  size = size;
  later = omega (arith, time.counted);
  never_falls = faults;
  past = λ k image lt le. time.past k image (omega (arith, time.counted));
}

-- one device call, whatever it answers
pub call_advances : {V E : Type 0} (old new : View) (result : Result V E) → old.now < 2 ^ 64 → IsDeviceCall old new result → Advances old new
call_advances old new result fits call = GoesOn-call old new fits call.time call.size call.cause.never_falls

-- one run after another
pub GoesOn-trans : (old mid new : View) → Advances old mid → Advances mid new → Advances old new
GoesOn-trans old mid new first second = record {
  size = second.size ∙ first.size;
  later = omega (arith, first.later, second.later);
  never_falls = omega (arith, first.never_falls, second.never_falls);
  past = λ k image lt le.
      let late = second.past k image lt (omega (arith, first.later)) in
      let early = first.past k image lt le in
      (λ left. early.0 (late.0 left), λ left. late.1 (early.1 left));
}

-- before the first call of a run
pub EachMoment-start : (disk : View) (P : ℕ → List ℕ → Type 0) → ((image : List ℕ) → images disk image → P disk.now image) → EachMoment disk disk P
EachMoment-start disk P here k image from to left =
    let is : k ≡ disk.now = omega arith in
    subst (λ (n : ℕ). P n image) (sym is) (here image (subst (λ (n : ℕ). disk.crash_images n image) is left))

-- one run after another: what the second adds are its own moments
pub EachMoment-trans : (old mid new : View) (P : ℕ → List ℕ → Type 0) → CountsOn new → Advances mid new → EachMoment old mid P
    → ((k : ℕ) (image : List ℕ) → mid.now < k → k ≤ new.now → new.crash_images k image → P k image) → EachMoment old new P
EachMoment-trans old mid new P counts goes before after k image from to left = ⊎_elim late early (cases_lt mid.now k)
  where
    early : k ≤ mid.now → P k image
    early le = before k image from le ((goes.past k image (omega (arith, counts)) le).0 left)

    late : mid.now < k → P k image
    late lt = after k image lt to left

-- one call after a run
pub EachMoment-call : (old mid new : View) (P : ℕ → List ℕ → Type 0) → CountsOn new → Advances mid new → Elapses mid new → EachMoment old mid P
    → ((image : List ℕ) → images new image → P new.now image) → EachMoment old new P
EachMoment-call old mid new P counts goes time before here =
    EachMoment-trans old mid new P counts goes before
    (λ k image lt le left.
    let is : k ≡ new.now = omega (arith, time.counted) in
    subst (λ (n : ℕ). P n image) (sym is) (here image (subst (λ (n : ℕ). new.crash_images n image) is left)))

pub Rests-refl : (disk : View) → Unwritten disk disk
Rests-refl disk = record {
  content = refl;
  left = λ image. (λ left. left, λ left. left);
  at_each_moment = λ counts. EachMoment-start disk (λ _ image. images disk image) (λ image left. left);
}

-- a call that writes nothing, after others that write nothing
pub Rests-call : (old mid new : View) → Advances mid new → Elapses mid new → new.content ≡ mid.content → SameImages (images mid) (images new)
    → Unwritten old mid → Unwritten old new
Rests-call old mid new goes time told same rests = record {
  content = told ∙ rests.content;
  left = λ image. (λ left. (rests.left image).0 ((same image).0 left), λ left. (same image).1 ((rests.left image).1 left));
  at_each_moment = λ counts.
      let counted : CountsOn mid = omega (arith, counts, goes.later) in
      EachMoment-call old mid new (λ _ image. images old image) counts goes time (rests.at_each_moment counted)
      (λ image left. (rests.left image).0 ((same image).0 left));
}

-- one run that writes nothing after another
pub Rests-trans : (old mid new : View) → Unwritten old mid → Advances mid new → Unwritten mid new → Unwritten old new
Rests-trans old mid new first goes second = record {
  content = second.content ∙ first.content;
  left = λ image. (λ left. (first.left image).0 ((second.left image).0 left), λ left. (second.left image).1 ((first.left image).1 left));
  at_each_moment = λ counts.
      let counted : CountsOn mid = omega (arith, counts, goes.later) in
      EachMoment-trans old mid new (λ _ image. images old image) counts goes (first.at_each_moment counted)
      (λ k image more le left. (first.left image).0 (second.at_each_moment counts k image (omega arith) le left));
}

-- nothing was written, and no call failed
pub record ReadSoFar (old new : View) : Type 0 where
  pub advances : Advances old new
  pub unwritten : Unwritten old new
  pub kept : new.faults ≡ old.faults

pub none_read : (disk : View) → ReadSoFar disk disk
none_read disk = record { advances = GoesOn-refl disk; unwritten = Rests-refl disk; kept = refl }
