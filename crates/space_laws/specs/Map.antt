-- When a map of free space tells what a disk has free, and when a grant was taken from it for a plan.
use Rattle.std.specs.Prelude.{◌≡◌, ℕ, ◌<◌, ◌≤◌, List, map, Some, Contains, sum_by, count_by}
use Rattle.sfs_image.specs.Super.{Layout, data_start}
use Rattle.fmt_journal.specs.declared.tx.Tx.{Tx}
use Rattle.space_map.specs.Pool.{Pool, status_of, BecomeAll, Grants, Ends}
use Rattle.space_map.specs.Space.{Space, GrantedNumbers, AllGranted}
use Rattle.space_map.specs.declared.status.Status.{Status}
use Rattle.space_map.specs.declared.status.Status.TheVariants.{Free, Taken}
use Rattle.disk_change.specs.GivenUp.{IsLeftByGone, entry_number}
use Rattle.disk_change.specs.Planned.{as_u32, blocks_taken, enters}
use Rattle.disk_change.specs.Written.{IsTransactionOf}
use Rattle.disk_nodes.specs.declared.old.OldEntry.{OldEntry}
use Rattle.commit_laws.specs.CommitOfPlan.{CommitPlan, change_planned}

-- A row of numbers has those of a range and no others, and of these exactly the held ones are taken.
pub record IsRowOf (first end : ℕ) (held : ℕ → Type 0) (pool : Pool) : Type 0 where
  pub all : (number : ℕ) → first ≤ number → number < end → (status : Status) × (status_of pool number ≡ Some status)
  pub within : (number : ℕ) (status : Status) → status_of pool number ≡ Some status → (first ≤ number) × (number < end)
  pub held_is_taken : (number : ℕ) (status : Status) → status_of pool number ≡ Some status → held number → status ≡ Taken
  pub taken_is_held : (number : ℕ) → status_of pool number ≡ Some Taken → held number

-- A map is right beside what memory keeps of the nodes of a disk: it has the blocks of the data area and the inodes of the disk, and of these
-- exactly those are taken that a node has.
pub record IsMapOf (layout : Layout) (entries : List OldEntry) (space : Space) : Type 0 where
  pub blocks : IsRowOf (data_start layout) layout.blocks (IsLeftByGone entries) space.blocks
  pub inodes : IsRowOf 0 layout.inodes (Contains (map entry_number entries)) space.inodes

-- A grant was taken from a map for a plan: as many inodes and blocks as its change needs.
pub record WasGranted (plan : CommitPlan) (old : Space) (grant : GrantedNumbers) (new : Space) : Type 0 where
  pub inodes : Grants old.inodes (as_u32 (count_by enters (change_planned plan).seats)) grant.inodes new.inodes
  pub blocks : Grants old.blocks (as_u32 (sum_by blocks_taken (change_planned plan).seats)) grant.blocks new.blocks

-- A grant was given back to a map.
pub record WasReturned (old : Space) (grant : GrantedNumbers) (new : Space) : Type 0 where
  pub granted_inodes : AllGranted old.inodes grant.inodes
  pub granted_blocks : AllGranted old.blocks grant.blocks
  pub inodes : BecomeAll Free grant.inodes old.inodes new.inodes
  pub blocks : BecomeAll Free grant.blocks old.blocks new.blocks

-- A grant has ended with the commit of a plan: its numbers are taken, and those are free that the plan's transaction gives up.
pub record WasUsed (plan : CommitPlan) (tx : Tx) (old : Space) (grant : GrantedNumbers) (new : Space) : Type 0 where
  pub gives_up : IsTransactionOf (change_planned plan) grant tx
  pub inodes : Ends grant.inodes tx.freed_inodes.items old.inodes new.inodes
  pub blocks : Ends grant.blocks tx.freed_blocks.items old.blocks new.blocks
