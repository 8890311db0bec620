-- Why a call of this crate fails.
use Rattle.std.specs.Prelude.{◌≡◌, ℕ, Bool, true, false, Result, Ok, Err}
use Rattle.sfs_base.specs.Ends.{HasRisen, HasCause}
use Rattle.sfs_base.specs.declared.fault.Failed.{Failed}
use Rattle.sfs_dev.specs.Disk.{View}
use Rattle.sfs_dev.specs.Run.{Advances}
use Rattle.recovery.specs.declared.fault.MkfsFault.{MkfsFault}
use Rattle.recovery.specs.declared.fault.MkfsFault.TheVariants as mkfs
use Rattle.recovery.specs.declared.fault.RecoverFault.{RecoverFault}
use Rattle.recovery.specs.declared.fault.RecoverFault.TheVariants.{DiskFailed, BadSuper, BadJournal, BadImage, NoMemory}

-- The count of faults has risen where the answer is that the disk failed, and any other answer has left it.
abbrev pub HasMkfsCause : ℕ → ℕ → Result (Unit {0}) MkfsFault → Type 0
HasMkfsCause before now (Err mkfs.DiskFailed) = HasRisen before now
HasMkfsCause before now (Err mkfs.NoMemory) = now ≡ before
HasMkfsCause before now (Ok done) = now ≡ before

-- whether a refusal of a recovery is that the disk failed
abbrev pub is_recover_disk_fault : RecoverFault → Bool
is_recover_disk_fault DiskFailed = true
is_recover_disk_fault (BadSuper at) = false
is_recover_disk_fault (BadJournal core slot at) = false
is_recover_disk_fault (BadImage inode rule) = false
is_recover_disk_fault NoMemory = false

-- Some device calls in a row, of which the last one may have failed.
pub record Ran {V : Type 0} (old new : View) (result : Result V Failed) : Type 0 where
  pub advances : Advances old new
  pub cause : HasCause old.faults new.faults result

-- Some device calls in a row, of which none failed.
pub record Undisturbed (old new : View) : Type 0 where
  pub advances : Advances old new
  pub kept : new.faults ≡ old.faults
