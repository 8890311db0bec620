-- The laws of free space, each of which a function of the module laws proves.
use Rattle.std.specs.Prelude.{◌≡◌, ◌≢◌, ◌↔◌, ℕ, ◌<◌, ◌≤◌, List, map, Option, None, Some, Contains}
use Rattle.sfs_base.specs.Name.{name_fault}
use Rattle.sfs_image.specs.Part.{Part}
use Rattle.sfs_image.specs.Slot.{Row}
use Rattle.sfs_image.specs.SlotBlock.{AreSlots}
use Rattle.sfs_image.specs.Super.{Layout, data_start}
use Rattle.fmt_journal.specs.declared.tx.Tx.{Tx}
use Rattle.absorb.specs.declared.nets.NetRow.{NetRow}
use Rattle.image_laws.specs.Image.{inodes_shown}
use Rattle.image_laws.specs.Renamed.{Numbering}
use Rattle.space_map.specs.Pool.{status_of, first_status, free_count}
use Rattle.space_map.specs.Space.{Space, GrantedNumbers}
use Rattle.space_map.specs.declared.status.Status.TheVariants.{Granted}
use Rattle.disk_change.specs.AllBuilt.{nodes_with_grant}
use Rattle.disk_change.specs.Built.{Built}
use Rattle.disk_change.specs.GivenUp.{IsLeftByGone, entry_number}
use Rattle.disk_change.specs.declared.directory_net.DirectoryNet.{DirectoryNet}
use Rattle.disk_nodes.specs.declared.old.OldEntry.{OldEntry}
use Rattle.commit_laws.specs.CommitOfPlan.{CommitPlan, change_planned, ServesPlan}
use Rattle.flush_laws.specs.Laws.{AreEntriesAfter}
use Rattle.flush_laws.specs.Planned.{IsPlanAt, GrantsPlan, IsPlannedFsync}
use Rattle.flush_laws.specs.Ready.{IsBetweenCommits, KeepsEntries}
use Rattle.flush_laws.specs.Volume.{Volume, OneFsync}
use Rattle.turn_laws.specs.Need.{ImageState, free_inodes, free_blocks}
use Rattle.space_laws.specs.Map.{IsMapOf, WasGranted, WasReturned, WasUsed}

-- A map is right that begins with what nodes have as taken, and with all else free.
abbrev pub FirstMapsAreRight : Type 0
FirstMapsAreRight = (layout : Layout) (entries : List OldEntry) (held : List ℕ) (space : Space)
    → ((block : ℕ) → Contains held block ↔ IsLeftByGone entries block)
    → ((block : ℕ) → status_of space.blocks block ≡ first_status (data_start layout) layout.blocks held block)
    → ((inode : ℕ) → status_of space.inodes inode ≡ first_status 0 layout.inodes (map entry_number entries) inode)
    → IsMapOf layout entries space

-- A grant serves a plan, and its blocks lie in the data area.
pub record ServesAt (layout : Layout) (parts : ℕ → Part) (plan : CommitPlan) (grant : GrantedNumbers) : Type 0 where
  pub serves : ServesPlan (inodes_shown layout parts) plan grant
  pub lies : (block : ℕ) → Contains grant.blocks block → (data_start layout ≤ block) × (block < layout.blocks)

-- Between two commits a grant that was taken from a right map serves the plan that it was taken for.
abbrev pub GrantsServe : Type 0
GrantsServe = (volume : Volume) (entries : List OldEntry) (plan : CommitPlan) (old new : Space) (grant : GrantedNumbers)
    → IsBetweenCommits volume → KeepsEntries volume.num volume.parts entries → IsMapOf volume.layout entries old → WasGranted plan old grant new
    → ServesAt volume.layout volume.parts plan grant

-- A grant that is taken leaves a map right.
abbrev pub GrantsKeepMaps : Type 0
GrantsKeepMaps = (layout : Layout) (entries : List OldEntry) (plan : CommitPlan) (old new : Space) (grant : GrantedNumbers)
    → IsMapOf layout entries old → WasGranted plan old grant new → IsMapOf layout entries new

-- So does one that is given back.
abbrev pub ReturnsKeepMaps : Type 0
ReturnsKeepMaps = (layout : Layout) (entries : List OldEntry) (old new : Space) (grant : GrantedNumbers)
    → IsMapOf layout entries old → WasReturned old grant new → IsMapOf layout entries new

-- And one that ends with its commit leaves the map right beside what memory then keeps.
abbrev pub CommitsKeepMaps : Type 0
CommitsKeepMaps = (volume : Volume) (one : OneFsync) (later : List OldEntry) (tx : Tx) (old new : Space) → IsPlannedFsync volume one
    → AreEntriesAfter one later → IsMapOf volume.layout one.entries old → WasUsed one.plan tx old one.grant new → IsMapOf volume.layout later new

-- the rows of nets have names
abbrev pub BringsNames : List DirectoryNet → Type 0
BringsNames nets = (one : DirectoryNet) → Contains nets one → (row : NetRow) → Contains one.net.items row → name_fault row.name ≡ None

-- what a plan builds of directories with a grant can stand in slots
abbrev pub FillsSlots : CommitPlan → GrantedNumbers → Type 0
FillsSlots plan grant = (one : Built) → Contains (nodes_with_grant (change_planned plan) grant) one → (block : List (Option Row))
    → Contains one.slots block → AreSlots block

-- So it is of each plan whose nets have names, with a grant that serves it.
abbrev pub PlansFillSlots : Type 0
PlansFillSlots = (volume : Volume) (one : OneFsync) → IsBetweenCommits volume → KeepsEntries volume.num volume.parts one.entries
    → IsPlanAt volume.first volume.history volume.cut volume.inodes one.flush one.raised one.after one.nodes one.entries one.plan
    → BringsNames one.plan.nets → ServesPlan (inodes_shown volume.layout volume.parts) one.plan one.grant → FillsSlots one.plan one.grant

-- And so a grant from a right map is one for the plan that it was taken for.
abbrev pub GrantsServePlans : Type 0
GrantsServePlans = (volume : Volume) (one : OneFsync) (old new : Space) → IsBetweenCommits volume → KeepsEntries volume.num volume.parts one.entries
    → IsPlanAt volume.first volume.history volume.cut volume.inodes one.flush one.raised one.after one.nodes one.entries one.plan
    → BringsNames one.plan.nets → IsMapOf volume.layout one.entries old → WasGranted one.plan old one.grant new
    → GrantsPlan volume.layout volume.parts one.plan one.grant

-- no number of a map is granted
pub record HasNoneGranted (space : Space) : Type 0 where
  pub inodes : (number : ℕ) → status_of space.inodes number ≢ Some Granted
  pub blocks : (number : ℕ) → status_of space.blocks number ≢ Some Granted

-- what an image has to tell of its parts, for whoever counts what is free in it
abbrev pub state_of_parts : Numbering → Layout → (ℕ → Part) → ImageState
state_of_parts num layout parts = record {
  num = num;
  image = inodes_shown layout parts;
  first_block = data_start layout;
  end_block = layout.blocks;
}

-- A map counts as free what an image has free.
pub record CountsFree (space : Space) (state : ImageState) : Type 0 where
  pub inodes : free_count space.inodes ≡ free_inodes state
  pub blocks : free_count space.blocks ≡ free_blocks state

-- So a right map does between two commits, where no grant is out.
abbrev pub MapsCountFree : Type 0
MapsCountFree = (volume : Volume) (entries : List OldEntry) (space : Space) → IsBetweenCommits volume → KeepsEntries volume.num volume.parts entries
    → IsMapOf volume.layout entries space → HasNoneGranted space → CountsFree space (state_of_parts volume.num volume.layout volume.parts)
