-- Whether a certificate agrees with what was counted over rows.
use Rattle.std.specs.Prelude.{◌≡◌, ◌≢◌, ℕ, Bool, true, false, List, length}
use Rattle.sfs_base.specs.Lists.{Roomy}
use Rattle.sfs_image.specs.Inode.{Inode}
use Rattle.sfs_image.specs.Slot.{Row}
use Rattle.keyed_list.specs.Ascending.{AscendBy}
use Rattle.disk_tree.specs.First.{IsFirst, NonePasses}
use Rattle.disk_tree.specs.Tests.{breaks_thirteenth}
use Rattle.image_check.specs.Checks.{are_places}
use Rattle.image_check.specs.Entries.{holder_inode}
use Rattle.image_check.specs.Gathered.{files_counted}
use Rattle.image_check.specs.declared.certificate.Certificate.{Certificate}

-- No inode has a wrong link count, the entries tell the places of the directories, and the number is that of the files that a row names.
pub record Agrees (inodes : List Inode) (rows : List (Roomy Row)) (named : List ℕ) (cert : Certificate) : Type 0 where
  pub links : NonePasses (length inodes) (breaks_thirteenth inodes rows (length inodes))
  pub places : are_places inodes rows cert.holders.items ≡ true
  pub files : files_counted inodes named (length inodes) ≡ cert.files
  pub ascend : AscendBy holder_inode cert.holders.items

-- one of these is not so
pub data Disagrees (inodes : List Inode) (rows : List (Roomy Row)) (named : List ℕ) (cert : Certificate) : Type 0 where
  links : (i : ℕ) → IsFirst (length inodes) (breaks_thirteenth inodes rows (length inodes)) i → Disagrees inodes rows named cert
  places : are_places inodes rows cert.holders.items ≡ false → Disagrees inodes rows named cert
  files : files_counted inodes named (length inodes) ≢ cert.files → Disagrees inodes rows named cert

-- what is answered for it
abbrev pub AgreesOn : List Inode → List (Roomy Row) → List ℕ → Certificate → Bool → Type 0
AgreesOn inodes rows named cert true = Agrees inodes rows named cert
AgreesOn inodes rows named cert false = Disagrees inodes rows named cert
