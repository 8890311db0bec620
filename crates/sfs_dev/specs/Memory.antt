-- A disk in memory as contracts see it.
use Rattle.std.specs.Prelude.{◌≡◌, ℕ, ◌+◌, ◌-◌, ◌*◌, ◌≤◌, min, List, [], ◌∷◌, ◌++◌, length, reverse, Some, vec_len, vec_capacity, Result, Err, OnOk, OnErr, IsOk, ◌<◌, ◌^◌}
use Rattle.sfs_dev.specs.Disk.{View, SameImages, IsDeviceCall, images}
use Rattle.sfs_dev.specs.Log.{left_at}
use Rattle.sfs_dev.specs.declared.call.Act.{Act}
use Rattle.sfs_dev.specs.declared.call.Call.{Call}
use Rattle.sfs_dev.specs.declared.memory.Memory.{Memory}

-- it tells everything; a crash leaves what its list of calls says
abbrev pub memory_view : Memory → View
memory_view m = record {
  size = m.blocks;
  content = Some m.bytes.items;
  now = m.moment;
  faults = m.faults;
  crash_images = λ k. left_at k (reverse m.calls.items) m.bytes.items m.replaced.items;
}

-- its device calls, the first one first, without those that failed
abbrev pub calls_of : Memory → List Call
calls_of m = m.calls.items

-- the bytes of all their writes, one after another
abbrev pub written_of : Memory → List ℕ
written_of m = m.written.items

-- for how many more calls the list has room
abbrev pub spare_calls : Memory → ℕ
spare_calls m = vec_capacity m.calls - vec_len m.calls

-- for how many more bytes of writes it has room
abbrev pub spare_bytes : Memory → ℕ
spare_bytes m = min (vec_capacity m.written - vec_len m.written) (vec_capacity m.replaced - vec_len m.replaced)

-- a whole number of blocks of 4,096 bytes, at most 262,144 of them
abbrev pub IsWholeBlocks : List ℕ → Type 0
IsWholeBlocks bytes = (blocks : ℕ) × (blocks ≤ 262144) × (length bytes ≡ 4096 * blocks)

-- A disk that holds these bytes, of which no call was made yet.
pub record IsFresh (memory : Memory) (bytes : List ℕ) : Type 0 where
  pub content : (memory_view memory).content ≡ Some bytes
  pub left : (image : List ℕ) → images (memory_view memory) image → image ≡ bytes
  pub size : 4096 * (memory_view memory).size ≡ length bytes
  pub now : (memory_view memory).now ≡ 0
  pub faults : (memory_view memory).faults ≡ 0
  pub calls : calls_of memory ≡ []
  pub written : written_of memory ≡ []

-- What it holds, its counts, its list and what a crash may leave are the same.
pub record SameDisk (old new : Memory) : Type 0 where
  pub size : (memory_view new).size ≡ (memory_view old).size
  pub content : (memory_view new).content ≡ (memory_view old).content
  pub now : (memory_view new).now ≡ (memory_view old).now
  pub faults : (memory_view new).faults ≡ (memory_view old).faults
  pub crash_images : (k : ℕ) → SameImages ((memory_view old).crash_images k) ((memory_view new).crash_images k)
  pub calls : calls_of new ≡ calls_of old
  pub written : written_of new ≡ written_of old

-- The list has one call more, at the disk's moment, and the bytes that it wrote.
pub record ListsCall (act : Act) (bytes : List ℕ) (old new : Memory) : Type 0 where
  pub calls : calls_of new ≡ calls_of old ++ record { moment = (memory_view new).now; act = act } ∷ []
  pub written : written_of new ≡ written_of old ++ bytes

-- A call that failed stands in no list, and what a read gives and what a crash may leave are as before.
pub record Skips (old new : Memory) : Type 0 where
  pub content : (memory_view new).content ≡ (memory_view old).content
  pub left : SameImages (images (memory_view old)) (images (memory_view new))
  pub calls : calls_of new ≡ calls_of old
  pub written : written_of new ≡ written_of old

-- A device call failed and did nothing else: it stands in no list, and is counted once as a call and once as a fault.
pub record FailsAlone (old new : Memory) : Type 0 where
  pub call : IsDeviceCall {V = Unit {0}} {E = Unit {0}} (memory_view old) (memory_view new) (Err tt)
  pub skips : Skips old new
  pub fault : (memory_view new).faults ≡ min ((memory_view old).faults + 1) (2 ^ 64 - 1)

-- The room in the list is lowered by one call at most, and by so many bytes at most.
pub record Spends (bytes : ℕ) (old new : Memory) : Type 0 where
  pub calls : spare_calls old ≤ spare_calls new + 1
  pub bytes_spent : spare_bytes old ≤ spare_bytes new + bytes

-- What each of its calls does to its list: one that succeeded is listed with these bytes, one that failed is not; one that fits in the
-- room does not fail, and takes no more room than that.
pub record IsListedCall {V E : Type 0} (act : Act) (bytes : List ℕ) (old new : Memory) (result : Result V E) : Type 0 where
  pub listed : OnOk result (ListsCall act bytes old new)
  pub unlisted : OnErr result (Skips old new)
  pub roomy : 0 < spare_calls old → length bytes ≤ spare_bytes old → IsOk result
  pub spare : Spends (length bytes) old new
