-- The list of calls that a disk in memory keeps, and what it says of a crash at each moment.
-- Beside it stand all the bytes that writes replaced, those of the newest write last.
use Rattle.std.specs.Prelude.{◌≡◌, ℕ, ◌+◌, ◌-◌, Bool, true, ◌&&◌, nat_le, MatchBool, List, [], ◌∷◌, map, length, take, drop}
use Rattle.sfs_dev.specs.Ranges.{put, SameOutside}
use Rattle.sfs_dev.specs.declared.call.Act.{Act}
use Rattle.sfs_dev.specs.declared.call.Act.TheVariants.{Read, Write, Sync}
use Rattle.sfs_dev.specs.declared.call.Call.{Call}

-- the last n bytes, and those before them
abbrev pub last_bytes : ℕ → List ℕ → List ℕ
last_bytes n bytes = drop (length bytes - n) bytes

abbrev pub all_but_last : ℕ → List ℕ → List ℕ
all_but_last n bytes = take (length bytes - n) bytes

-- what a read gave before the newest call
abbrev pub content_before : Act → List ℕ → List ℕ → List ℕ
content_before (Read at count) content replaced = content
content_before (Write at count) content replaced = put at (last_bytes count replaced) content
content_before Sync content replaced = content

-- what was replaced before the newest call
abbrev pub replaced_before : Act → List ℕ → List ℕ
replaced_before (Read at count) replaced = replaced
replaced_before (Write at count) replaced = all_but_last count replaced
replaced_before Sync replaced = replaced

-- what a crash may leave after these calls, the newest first: after a sync, and before the first call, what a read gives;
-- after a write, any bytes in its range
abbrev pub left_after : List Act → List ℕ → List ℕ → List ℕ → Type 0
left_after [] content replaced image = image ≡ content
left_after (Read at count ∷ earlier) content replaced image = left_after earlier content replaced image
left_after (Write at count ∷ earlier) content replaced image =
    (was : List ℕ) × left_after earlier (put at (last_bytes count replaced) content) (all_but_last count replaced) was × SameOutside at count was image
left_after (Sync ∷ earlier) content replaced image = image ≡ content

-- what the calls asked for
abbrev pub acts_of : List Call → List Act
acts_of calls = map (λ call. call.act) calls

-- what a crash may leave after the calls up to moment k; those after it are undone
abbrev pub left_at : ℕ → List Call → List ℕ → List ℕ → List ℕ → Type 0
left_at k [] content replaced image = image ≡ content
left_at k (call ∷ earlier) content replaced image =
    MatchBool (nat_le call.moment k)
    (left_after (acts_of (call ∷ earlier)) content replaced image)
    (left_at k earlier (content_before call.act content replaced) (replaced_before call.act replaced) image)

-- the moment of the newest call
abbrev pub newest_moment : List Call → ℕ
newest_moment [] = 0
newest_moment (call ∷ earlier) = call.moment

-- each write lies within a disk of so many bytes, and what it replaced is there
abbrev pub fits : ℕ → List Act → ℕ → Bool
fits size [] kept = true
fits size (Read at count ∷ earlier) kept = fits size earlier kept
fits size (Write at count ∷ earlier) kept = (nat_le (at + count) size && nat_le count kept) && fits size earlier (kept - count)
fits size (Sync ∷ earlier) kept = fits size earlier kept
