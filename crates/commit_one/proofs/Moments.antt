-- How what images have goes on over the moments of device calls.
use Rattle.std.proofs.Common.{◌≡◌, ℕ, ◌<◌, ◌≤◌, List, length, Option, Some, Result, Ok, Err, sym, ◌∙◌, ap, subst, arith, inl, inr, option_map}
use Rattle.std.proofs.lemmas.Bool.{cases_lt}
use Rattle.sfs_dev.specs.Ranges.{put, SameOutside}
use Rattle.sfs_dev.specs.Disk.{View, TornTold, Elapses, images}
use Rattle.sfs_dev.specs.Run.{Advances, CountsOn}
use Rattle.journal_one.specs.Calls.{IsWrite, IsSync}
use Rattle.journal_one.specs.Job.{Piece}
use Rattle.journal_one.specs.Known.{EachLeft}
use Rattle.journal_one.proofs.Kept.{IsLawful, synced_rests, put_told}
use Rattle.sfs_dev.proofs.Held.{told_before}
use Rattle.commit_one.specs.Carried.{LaterLeaves, GoesOnTelling, Keeps}

-- no device call
pub keeps_none : (P : List ℕ → Type 0) (disk : View) → EachLeft disk P → Keeps P disk disk
keeps_none P disk leaves = record {
  told = λ content is. (content, is);
  now = leaves;
  later = λ content is counts k image from to left. absurd (omega arith);
}

-- one device call: its only later moment is that of the images now
pub later_call : (P : ℕ → List ℕ → Type 0) (old new : View) → Elapses old new
    → (CountsOn new → (content : List ℕ) → old.content ≡ Some content → (image : List ℕ) → images new image → P new.now image)
    → LaterLeaves P old new
later_call P old new time here content is counts k image from to left =
    let there : k ≡ new.now = omega (arith, time.counted) in
    subst (λ (n : ℕ). P n image) (sym there) (here counts content is image (subst (λ (n : ℕ). new.crash_images n image) there left))

-- calls after calls
pub later_trans : (P : ℕ → List ℕ → Type 0) (old mid new : View) → GoesOnTelling old mid → Advances mid new → LaterLeaves P old mid → LaterLeaves P mid new
    → LaterLeaves P old new
later_trans P old mid new told goes first second content is counts k image from to left =
    elim (cases_lt mid.now k) [
      | inl late ↦ let m = told content is in second m.0 m.1 counts k image late to left
      | inr early ↦ first content is (omega (arith, counts, goes.later)) k image from early ((goes.past k image (omega (arith, counts)) early).0 left)
    ]

pub telling_trans : (old mid new : View) → GoesOnTelling old mid → GoesOnTelling mid new → GoesOnTelling old new
telling_trans old mid new first second content is = let m = first content is in second m.0 m.1

pub keeps_trans : (P : List ℕ → Type 0) (old mid new : View) → Advances mid new → Keeps P old mid → Keeps P mid new → Keeps P old new
keeps_trans P old mid new goes first second = record {
  told = telling_trans old mid new first.told second.told;
  now = second.now;
  later = later_trans (λ k image. P image) old mid new first.told goes first.later second.later;
}

-- more is left where more is so
pub later_more : (P Q : ℕ → List ℕ → Type 0) (old new : View) → ((k : ℕ) (image : List ℕ) → old.now < k → k ≤ new.now → P k image → Q k image)
    → LaterLeaves P old new → LaterLeaves Q old new
later_more P Q old new more leaves content is counts k image from to left = more k image from to (leaves content is counts k image from to left)

-- a write goes on telling, and so does a sync
pub writes_tell : {V E : Type 0} (piece : Piece) (old new : View) (result : Result V E) → IsWrite piece old new result → GoesOnTelling old new
writes_tell piece old new (Ok value) is content told = (put piece.at piece.bytes content, is.ok ∙ ap (option_map (put piece.at piece.bytes)) told)
writes_tell piece old new (Err fault) is content told =
    let torn = subst (λ (t : Option (List ℕ)). TornTold piece.at (length piece.bytes) t new.content) told is.err in
    (torn.0, torn.1)

pub syncs_tell : {V E : Type 0} (old new : View) (result : Result V E) → IsSync old new result → GoesOnTelling old new
syncs_tell old new result is content told = (content, is.content ∙ told)

-- a write all of whose images have P where those before had
pub write_keeps : {V E : Type 0} (P : List ℕ → Type 0) (piece : Piece) (old new : View) (result : Result V E)
    → ((was image : List ℕ) → SameOutside piece.at (length piece.bytes) was image → P was → P image)
    → ((content : List ℕ) → new.content ≡ Some content → (was : List ℕ) × (old.content ≡ Some was)) → IsWrite piece old new result → EachLeft old P
    → Keeps P old new
write_keeps P piece old new result frame back is leaves =
    let now : (content : List ℕ) → old.content ≡ Some content → (image : List ℕ) → images new image → P image = λ content told image left.
    let was = is.torn image left in
    frame was.0 image was.2 (leaves content told was.0 was.1) in
    record {
      told = writes_tell piece old new result is;
      now = λ content told image left. let b = back content told in now b.0 b.1 image left;
      later = later_call (λ k image. P image) old new is.call.time (λ counts content told image left. now content told image left);
    }

-- and a sync
pub sync_keeps : {V E : Type 0} (P : List ℕ → Type 0) (old new : View) (result : Result V E) → IsLawful old → IsSync old new result → EachLeft old P
    → Keeps P old new
sync_keeps P old new result lawful is leaves =
    let rests = synced_rests old new result lawful is in
    record {
      told = syncs_tell old new result is;
      now = λ content told image left. leaves content (sym rests.content ∙ told) image (rests.left content told image left);
      later = later_call (λ k image. P image) old new is.call.time
          (λ counts content told image left. leaves content told image (rests.left content (rests.content ∙ told) image left));
    }

-- what is told after a write was told before it
pub writes_told : {V E : Type 0} (piece : Piece) (old new : View) (result : Result V E) → IsWrite piece old new result → (content : List ℕ)
    → new.content ≡ Some content
    → (was : List ℕ) × (old.content ≡ Some was)
writes_told piece old new (Ok value) is content told = let p = put_told piece old.content new.content content is.ok told in (p.0, p.1)
writes_told piece old new (Err fault) is content told = let p = told_before piece.at (length piece.bytes) old.content new.content content is.err told in
    (p.0, p.1)
