-- A disk that fails from some call on, as contracts see it.
use Rattle.std.specs.Prelude.{◌≡◌, ℕ, ◌-◌, ◌==◌, List, Result}
use Rattle.sfs_dev.specs.declared.call.Act.{Act}
use Rattle.sfs_dev.specs.declared.memory.Memory.{Memory}
use Rattle.dev_fake.specs.Calls.{IsCallUnder}
use Rattle.dev_fake.specs.declared.fuse.Fuse.{Fuse}

-- the disk under it
abbrev pub disk_under : Fuse → Memory
disk_under fuse = fuse.disk

-- how many more device calls it passes on
abbrev pub passes_of : Fuse → ℕ
passes_of fuse = fuse.passes

-- A device call: it fails where no more are passed on, and is passed on otherwise, which lowers their number by one.
pub record IsFuseCall {V E : Type 0} (act : Act) (bytes : List ℕ) (old new : Fuse) (result : Result V E) : Type 0 where
  pub call : IsCallUnder (passes_of old == 0) act bytes (disk_under old) (disk_under new) result
  pub passes : passes_of new ≡ passes_of old - 1
