-- What a mount gives, by what a shared table, its journals and its fsyncs ask.
use Rattle.std.specs.Prelude.{◌≡◌, ◌≤◌, ◌+◌, ℕ, is_some, length}
use Rattle.std.specs.FinMap.{get}
use Rattle.sfs_image.specs.Super.{IsLayout}
use Rattle.tree_laws.specs.Laws.{IsSoundTree}
use Rattle.tree_laws.specs.Sound.{IsWithinLimits}
use Rattle.mem_values.specs.Facts.{IsBelowInodes}
use Rattle.mem_values.specs.Places.{node_count}
use Rattle.mem_values.specs.Start.{given_in}
use Rattle.mem_begin.specs.Beginning.{CanBeginTable}
use Rattle.slot_laws.specs.Grants.{NoneGranted}
use Rattle.fsync_commit.specs.Asked.{IsSpaceOn}
use Rattle.mount_begin.specs.Mounted.{IsSoundMount}
use Rattle.mount_begin.specs.declared.begin.Mounted.{Mounted}

-- What was mounted with so many new nodes is a site. Its tree is sound and within its limits, a table may begin with it, and it has the layout's cores and no
-- more nodes than the disk has inodes, but for the new ones. Of exactly its nodes the disk has something, which is an inode of it. And the layout lies in its
-- own blocks, with free space of its own, of which nothing is granted.
pub record IsSiteMount (nodes : ℕ) (mounted : Mounted) : Type 0 where
  pub sound : IsSoundTree mounted.tree
  pub limits : IsWithinLimits mounted.tree
  pub begins : CanBeginTable mounted.tree
  pub cores : length mounted.tree.made ≡ mounted.layout.cores
  pub inodes : mounted.layout.inodes ≡ mounted.tree.first
  pub few : node_count mounted.tree ≤ mounted.layout.inodes + nodes
  pub disk : (node : ℕ) → is_some (given_in mounted.old.items node) ≡ is_some (get mounted.tree.nodes node)
  pub below : (node : ℕ) → IsBelowInodes mounted.tree.first (given_in mounted.old.items node)
  pub fits : IsLayout mounted.layout.blocks mounted.layout
  pub space : IsSpaceOn mounted.layout mounted.space
  pub no_inode : NoneGranted mounted.space.inodes
  pub no_block : NoneGranted mounted.space.blocks

-- So it is of each mount, whatever its disk told.
abbrev pub MountsAreSites : Type 0
MountsAreSites = (nodes size : ℕ) (mounted : Mounted) → IsSoundMount nodes size mounted → IsSiteMount nodes mounted
