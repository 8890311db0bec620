-- The image that a disk in memory leaves by draws: after the first calls of its list, the writes pending there reach the disk as drawn.
use Rattle.std.specs.Prelude.{ℕ, ◌+◌, ◌-◌, ◌*◌, ◌/◌, ◌%◌, ◌^◌, ◌<◌, ◌≤◌, ◌==◌, min, Bool, true, false, All, List, [], ◌∷◌, ◌++◌, length, take, drop, reverse, replicate, take_while, if◌then◌else◌}
use Rattle.sfs_dev.specs.Ranges.{part, put}
use Rattle.sfs_dev.specs.Log.{content_before, replaced_before, acts_of}
use Rattle.sfs_dev.specs.Memory.{memory_view, calls_of, written_of}
use Rattle.sfs_dev.specs.declared.call.Act.{Act}
use Rattle.sfs_dev.specs.declared.call.Act.TheVariants.{Read, Write, Sync}
use Rattle.sfs_dev.specs.declared.call.Call.{Call}
use Rattle.sfs_dev.specs.declared.left.TheConstants.{SPOILT}
use Rattle.sfs_dev.specs.declared.memory.Memory.{Memory}

-- what a read gave once some calls were made, and what their writes had replaced
pub record Past : Type 0 where
  pub content : List ℕ
  pub replaced : List ℕ

abbrev pub past_of : List ℕ → List ℕ → Past
past_of content replaced = record { content = content; replaced = replaced }

-- what was before these calls, the newest first
abbrev pub undone : List Act → Past → Past
undone [] past = past
undone (act ∷ earlier) past = undone earlier (past_of (content_before act past.content past.replaced) (replaced_before act past.replaced))

-- an act is no sync
abbrev pub is_no_sync : Act → Bool
is_no_sync (Read at count) = true
is_no_sync (Write at count) = true
is_no_sync Sync = false

-- a call is no sync
abbrev pub is_pending : Call → Bool
is_pending call = is_no_sync call.act

-- how many of these calls, the newest first, come after the last sync
abbrev pub pending_count : List Call → ℕ
pending_count calls = length (take_while is_pending calls)

-- the number that is drawn after another
abbrev pub next_draw : ℕ → ℕ
next_draw x = (1664525 * x + 1013904223) % 2 ^ 32

-- the first half of these bytes, and then bytes that were never written
abbrev pub half_written : List ℕ → List ℕ
half_written new = take (length new / 2) new ++ replicate (length new - length new / 2) SPOILT

-- what a range has after a crash, by a drawn number: its old bytes, its new bytes, or the first half of the new ones
abbrev pub torn_by : ℕ → List ℕ → List ℕ → List ℕ
torn_by x old new = if x / 65536 % 3 == 0 then old else if x / 65536 % 3 == 1 then new else half_written new

-- the last number drawn, and the image so far
pub record Drawn : Type 0 where
  pub number : ℕ
  pub image : List ℕ

-- these bytes were to be written from byte `at` on: a number is drawn for them
abbrev pub draw_write : ℕ → List ℕ → Drawn → Drawn
draw_write at new drawn =
    record { number = next_draw drawn.number; image = put at (torn_by (next_draw drawn.number) (part at (length new) drawn.image) new) drawn.image }

-- numbers are drawn for the writes of these calls, the first one first, whose bytes stand one after another
abbrev pub draw_writes : List Act → List ℕ → Drawn → Drawn
draw_writes [] written drawn = drawn
draw_writes (Read at count ∷ later) written drawn = draw_writes later written drawn
draw_writes (Write at count ∷ later) written drawn = draw_writes later (drop count written) (draw_write at (take count written) drawn)
draw_writes (Sync ∷ later) written drawn = draw_writes later written drawn

-- The image after the first `made` calls of the list: what a read gave after the last sync among them, and then what is drawn for the
-- writes since.
abbrev pub drawn_image : ℕ → ℕ → List Call → List ℕ → Past → List ℕ
drawn_image made pick calls written now =
    let settled = made - pending_count (reverse (take made calls)) in
    let past = undone (acts_of (reverse (drop settled calls))) now in
    (draw_writes (acts_of (drop settled (take made calls))) (drop (length past.replaced) written) (record { number = pick; image = past.content })).image

-- the image that a disk in memory leaves after the first calls of its list, by draws from a number
abbrev pub image_left : ℕ → ℕ → Memory → List ℕ
image_left calls pick m =
    drawn_image (min calls (length (calls_of m))) pick (calls_of m) (written_of m) (past_of m.bytes.items m.replaced.items)

-- by moment k just so many calls of the list were made
pub record WereMade (k made : ℕ) (calls : List Call) : Type 0 where
  pub by_then : All (λ (call : Call). call.moment ≤ k) (take made calls)
  pub after : All (λ (call : Call). k < call.moment) (drop made calls)

-- it is what a crash may leave at each moment at which just so many calls of the list were made
abbrev pub IsLeftAfter : ℕ → Memory → List ℕ → Type 0
IsLeftAfter calls m image = (k : ℕ) → WereMade k (min calls (length (calls_of m))) (calls_of m) → (memory_view m).crash_images k image
