-- Why reading a tree fails.
use Rattle.std.specs.Prelude.{Bool, true, false}
use Rattle.disk_tree.specs.declared.fault.TreeFault.{TreeFault}
use Rattle.disk_tree.specs.declared.fault.TreeFault.TheVariants.{DiskFailed, BadImage, NoMemory}

-- whether a refusal is that the disk failed
abbrev pub is_tree_disk_fault : TreeFault → Bool
is_tree_disk_fault DiskFailed = true
is_tree_disk_fault (BadImage inode rule) = false
is_tree_disk_fault NoMemory = false
