-- Why a call of this crate fails.
use Rattle.std.specs.Prelude.{Bool, true, false}
use Rattle.image_check.specs.declared.fault.AcceptFault.{AcceptFault}
use Rattle.image_check.specs.declared.fault.AcceptFault.TheVariants as accepting
use Rattle.image_check.specs.declared.fault.VerifyFault.{VerifyFault}
use Rattle.image_check.specs.declared.fault.VerifyFault.TheVariants.{DiskFailed, BadSuper, BadJournal, BadImage, NoMemory}

-- whether there is no certificate since the disk failed
abbrev pub is_verify_disk_fault : VerifyFault → Bool
is_verify_disk_fault DiskFailed = true
is_verify_disk_fault (BadSuper at) = false
is_verify_disk_fault (BadJournal core slot at) = false
is_verify_disk_fault (BadImage inode rule bytes) = false
is_verify_disk_fault NoMemory = false

-- whether there is no verdict since the disk failed
abbrev pub is_accept_disk_fault : AcceptFault → Bool
is_accept_disk_fault accepting.DiskFailed = true
is_accept_disk_fault accepting.NoMemory = false
