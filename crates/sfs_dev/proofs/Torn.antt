-- What a write with its sync leaves at each moment.
use Rattle.std.proofs.Common.{◌≡◌, ⊎_elim, ℕ, ◌+◌, ◌<◌, ◌≤◌, List, length, Option, Some, option_map, sym, ◌∙◌, ap, subst, arith}
use Rattle.std.proofs.lemmas.Bool.{cases_lt}
use Rattle.sfs_dev.specs.Ranges.{put, SameOutside}
use Rattle.sfs_dev.specs.RangeLaws.{SameOutside-put}
use Rattle.sfs_dev.specs.Disk.{View, Torn, SameImages, OnlyTold, Elapses, images}
use Rattle.sfs_dev.specs.Run.{CountsOn}
use Rattle.sfs_dev.specs.Steps.{TornSince}

-- a write alone
pub torn_write : (at n : ℕ) (old new : View) → Elapses old new → Torn at n (images old) (images new) → TornSince at n old new
torn_write at n old new time torn k image from to left =
    let is : k ≡ new.now = omega (arith, time.counted) in
    torn image (subst (λ (m : ℕ). new.crash_images m image) is left)

-- and with a sync behind it, whose images are torn too
pub torn_after : (at n : ℕ) (old mid new : View) → CountsOn new → Elapses old mid → Elapses mid new → Torn at n (images old) (images mid)
    → Torn at n (images old) (images new) → TornSince at n old new
torn_after at n old mid new counts first second torn torn_now k image from to left = ⊎_elim late early (cases_lt mid.now k)
  where
    late : mid.now < k → (was : List ℕ) × images old was × SameOutside at n was image
    late lt =
        let is : k ≡ new.now = omega (arith, second.counted) in
        torn_now image (subst (λ (m : ℕ). new.crash_images m image) is left)

    early : k ≤ mid.now → (was : List ℕ) × images old was × SameOutside at n was image
    early le = torn_write at n old mid first torn k image from le ((second.past k image (omega (arith, second.counted, counts))).0 left)

-- after a sync that answered Ok
pub torn_synced : (at : ℕ) (bytes content : List ℕ) (old mid new : View) → at + length bytes ≤ length content → old.content ≡ Some content → images old content
    → mid.content ≡ option_map (put at bytes) old.content → new.content ≡ mid.content → OnlyTold new.content (images new)
    → Torn at (length bytes) (images old) (images new)
torn_synced at bytes content old mid new within told here written same only image left =
    let is : new.content ≡ Some (put at bytes content) = same ∙ written ∙ ap (option_map (put at bytes)) told in
    let sole : OnlyTold (Some (put at bytes content)) (images new) = subst (λ (t : Option (List ℕ)). OnlyTold t (images new)) is only in
    (content, here, subst (λ (l : List ℕ). SameOutside at (length bytes) content l) (sym (sole image left)) (SameOutside-put at bytes content within))

-- after a sync that failed
pub torn_failed : (at n : ℕ) (old mid new : View) → Torn at n (images old) (images mid) → SameImages (images mid) (images new)
    → Torn at n (images old) (images new)
torn_failed at n old mid new torn same image left = torn image ((same image).0 left)
