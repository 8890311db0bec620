-- Several device calls in a row that write some bytes and nothing else.
use Rattle.std.proofs.Common.{◌≡◌, ℕ, ◌^◌, ◌<◌, List, length, Option, Some, Result, Ok, Err, ◌∙◌, ap, subst, arith, inl, inr, option_map}
use Rattle.std.proofs.lemmas.Bool.{cases_lt}
use Rattle.sfs_dev.specs.Ranges.{put}
use Rattle.sfs_dev.specs.RangeLaws.{SameOutside-refl, SameOutside-trans}
use Rattle.sfs_dev.specs.Disk.{View, Torn, TornTold, IsDeviceCall, images}
use Rattle.sfs_dev.specs.Run.{Advances, CountsOn}
use Rattle.sfs_dev.specs.Steps.{TearsOnly, TornSince}
use Rattle.sfs_dev.proofs.Runs.{GoesOn-refl, GoesOn-call, GoesOn-trans}
use Rattle.journal_one.specs.Calls.{IsWrite, IsSync}
use Rattle.journal_one.specs.Job.{Piece}
use Rattle.journal_one.proofs.Kept.{IsLawful, synced_rests}

-- The calls between two moments: they advance the disk, and each image of each moment differs from one before them in these bytes alone.
pub record Span (at n : ℕ) (old new : View) : Type 0 where
  pub goes : Advances old new
  pub told : (content : List ℕ) → old.content ≡ Some content → (now : List ℕ) × (new.content ≡ Some now)
  pub torn : (content : List ℕ) → old.content ≡ Some content → Torn at n (images old) (images new)
  pub since : (content : List ℕ) → old.content ≡ Some content → CountsOn new → TornSince at n old new

pub span_none : (at n : ℕ) (disk : View) → Span at n disk disk
span_none at n disk = record {
  goes = GoesOn-refl disk;
  told = λ content is. (content, is);
  torn = λ content is image left. (image, left, SameOutside-refl at n image);
  since = λ content is counts k image from to left. absurd (omega arith);
}

module _ (at n : ℕ) (old mid new : View) (before : Span at n old mid) (fits : mid.now < 2 ^ 64) where
  -- one device call more, which writes these bytes or none
  one_more : {V E : Type 0} (result : Result V E) → IsDeviceCall mid new result
      → ((content : List ℕ) → mid.content ≡ Some content → (now : List ℕ) × (new.content ≡ Some now))
      → ((content : List ℕ) → mid.content ≡ Some content → Torn at n (images mid) (images new)) → Span at n old new
  one_more result call told torn =
      let goes : Advances mid new = GoesOn-call mid new fits call.time call.size call.cause.never_falls in
      let torn_now : (content : List ℕ) → old.content ≡ Some content → Torn at n (images old) (images new) = λ content is image left.
      let m = before.told content is in
      let was = torn m.0 m.1 image left in
      let first = before.torn content is was.0 was.1 in
      (first.0, first.1, SameOutside-trans at n first.0 was.0 image first.2 was.2) in
      record {
        goes = GoesOn-trans old mid new before.goes goes;
        told = λ content is. let m = before.told content is in told m.0 m.1;
        torn = torn_now;
        since = λ content is counts k image from to left.
            elim (cases_lt mid.now k) [
              | inl late ↦
                  let here : k ≡ new.now = omega (arith, call.time.counted) in
                  torn_now content is image (subst (λ (m : ℕ). new.crash_images m image) here left)
              | inr early ↦
                  before.since content is (omega (arith, counts, goes.later)) k image from early ((goes.past k image (omega (arith, counts)) early).0 left)
            ];
      }

  pub span_sync : {V E : Type 0} (result : Result V E) → IsLawful mid → IsSync mid new result → Span at n old new
  span_sync result lawful is =
      let rests = synced_rests mid new result lawful is in
      one_more result is.call (λ content told. (content, is.content ∙ told))
      (λ content told image left. (image, rests.left content (is.content ∙ told) image left, SameOutside-refl at n image))

  written_told : {V E : Type 0} (piece : Piece) (result : Result V E) → IsWrite piece mid new result → (content : List ℕ) → mid.content ≡ Some content
      → (now : List ℕ) × (new.content ≡ Some now)
  written_told piece (Ok value) is content told = (put piece.at piece.bytes content, is.ok ∙ ap (option_map (put piece.at piece.bytes)) told)
  written_told piece (Err fault) is content told =
      let torn = subst (λ (t : Option (List ℕ)). TornTold piece.at (length piece.bytes) t new.content) told is.err in
      (torn.0, torn.1)

  pub span_write : {V E : Type 0} (piece : Piece) (result : Result V E) → piece.at ≡ at → length piece.bytes ≡ n → IsWrite piece mid new result
      → Span at n old new
  span_write piece result same_at same_n is =
      one_more result is.call (written_told piece result is)
      (λ content told. subst (λ (k : ℕ). Torn k n (images mid) (images new)) same_at
      (subst (λ (m : ℕ). Torn piece.at m (images mid) (images new)) same_n is.torn))

-- what a row of calls does, as the contracts say it
pub span_tears : (at n : ℕ) (old new : View) → Span at n old new → TearsOnly at n old new
span_tears at n old new span content told counts = span.since content told counts
