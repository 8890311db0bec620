-- A disk whose listed calls fail, as contracts see it.
use Rattle.std.specs.Prelude.{◌≡◌, ℕ, ◌+◌, ◌-◌, ◌^◌, min, List, Result}
use Rattle.sfs_base.specs.Listed.{is_listed}
use Rattle.sfs_dev.specs.declared.call.Act.{Act}
use Rattle.sfs_dev.specs.declared.memory.Memory.{Memory}
use Rattle.dev_fake.specs.Calls.{IsCallUnder}
use Rattle.dev_fake.specs.declared.fail_at.FailAt.{FailAt}

-- the disk under it
abbrev pub disk_of : FailAt → Memory
disk_of fake = fake.disk

-- the numbers of the device calls that fail
abbrev pub listed_of : FailAt → List ℕ
listed_of fake = fake.calls.items

-- the number of the next device call: how many were made, up to the last value of a `u64`
abbrev pub next_call_number : FailAt → ℕ
next_call_number fake = fake.next

-- A device call: it fails where its number is listed, and is passed on otherwise; it is counted.
pub record IsFailAtCall {V E : Type 0} (act : Act) (bytes : List ℕ) (old new : FailAt) (result : Result V E) : Type 0 where
  pub call : IsCallUnder (is_listed (listed_of old) (next_call_number old)) act bytes (disk_of old) (disk_of new) result
  pub next : next_call_number new ≡ min (next_call_number old + 1) (2 ^ 64 - 1)
  pub listed : listed_of new ≡ listed_of old
