-- What an fsync plans by what it caught.
use Rattle.std.specs.Prelude.{◌≡◌, ◌≤◌, ◌∷◌, ◌<◌, ℕ, List, [], Option, Some, None, length, map, is_some}
use Rattle.sfs_base.specs.declared.numbers.NodeId.{NodeId}
use Rattle.sfs_base.specs.declared.numbers.Stamp.{Stamp}
use Rattle.mem_files.specs.File.{File}
use Rattle.disk_nodes.specs.declared.old.OldEntry.{OldEntry}
use Rattle.disk_change.specs.declared.files.FileChange.{FileChange}
use Rattle.disk_change.specs.Planned.{planned}
use Rattle.dep_closure.specs.declared.gathered.Gathered.{Gathered}
use Rattle.dep_closure.specs.Gathered.{cut_in}
use Rattle.flush_plan.specs.Plan.{IsPlanOf}
use Rattle.flush_plan.specs.Touched.{IsFileChange}
use Rattle.stamp_table.specs.Table.{values_in, with_values}
use Rattle.mem_values.specs.Start.{FileHand}
use Rattle.mem_values.specs.declared.cell.Cell.{Cell}
use Rattle.mem_values.specs.declared.cell.Cell.TheVariants as cell
use Rattle.slot_laws.specs.declared.label.Seen.{Seen}
use Rattle.fsync_values.specs.Lending.{IsLent, entries_of, lent_value}
use Rattle.fsync_values.specs.Renewing.{boxes_asked}
use Rattle.fsync_catch.specs.declared.looking.Caught.{Caught}
use Rattle.fsync_catch.specs.declared.looking.WaitingFsync.{WaitingFsync}
use Rattle.fsync_draft.specs.declared.drafting.Draft.{Draft}
use Rattle.fsync_draft.specs.declared.lending.DraftedFsync.{DraftedFsync}

-- the number of a node's last commit, by its value
abbrev pub last_of_value : Cell → ℕ
last_of_value (cell.Pending pending) = pending.value.last
last_of_value _ = 0

-- nodes with the numbers of their last commits, by their values, a value a node
abbrev pub seens_of : List NodeId → List Cell → List Seen
seens_of [] values = []
seens_of (node ∷ nodes) [] = []
seens_of (node ∷ nodes) (value ∷ values) = record { node = node; last = last_of_value value } ∷ seens_of nodes values

-- the change of an fsync's own node: that of its file, from the cut on that was gathered, and none of a directory
abbrev pub IsDraftedFile : NodeId → Gathered → Option File → Option FileChange → Type 0
IsDraftedFile node gathered None change = change ≡ None
IsDraftedFile node gathered (Some file) change = (one : FileChange) × IsFileChange node (cut_in gathered.cuts.items node.0) file one × (change ≡ Some one)

-- What was planned by what was caught, over these values, a value a node: the plan is made of what was gathered and of what the disk has of the nodes, which
-- was taken out of the values; there are boxes enough for what a commit leaves of them; and of each node its last commit was seen.
pub record IsDrafted (fsync : WaitingFsync) (caught : Caught) (file : Option File) (was now : List Cell) (draft : Draft) : Type 0 where
  pub change : Option FileChange
  pub change_is : IsDraftedFile fsync.node caught.gathered file change
  pub planned : IsPlanOf fsync.node fsync.stamp caught.gathered caught.concern (entries_of caught.concern.nodes.items was) (is_some file) change draft.plan
  pub lent : now ≡ map lent_value was
  pub boxes : (after : List OldEntry) (nodes : List NodeId) → boxes_asked after nodes was ≤ length draft.spares.items
  pub seen : draft.seen.items ≡ seens_of caught.concern.nodes.items was

-- So it was over the values of the cells that a core held.
abbrev pub IsDraftOf : WaitingFsync → Caught → Option File → FileHand → DraftedFsync → Type 0
IsDraftOf fsync caught file before drafted = IsDrafted fsync caught file (values_in before.held) drafted.values.items drafted.draft

-- Other values stand in the cells that a core holds, and nothing else has changed.
pub record IsHollow (before after : FileHand) : Type 0 where
  pub values : List Cell
  pub count : length values ≡ length before.held
  pub after_is : after ≡ record before { held = with_values values before.held }

-- Values are out of a core's cells, in which others stand, and what the disk has of some nodes, a value a node, was taken out of them.
pub record IsLentOut (before hand : FileHand) (values : List Cell) (old : List OldEntry) : Type 0 where
  pub nodes : List NodeId
  pub hollow : IsHollow before hand
  pub lent : IsLent nodes (values_in before.held) values old

-- the changes of a file that has an inode, by its copy: those from its cut on, and none where something later than the fsync was flushed
abbrev pub IsDraftedAlone : WaitingFsync → Stamp → File → List FileChange → Type 0
IsDraftedAlone fsync cut file [] = fsync.stamp.0 < cut.0
IsDraftedAlone fsync cut file (change ∷ []) = (cut.0 ≤ fsync.stamp.0) × IsFileChange fsync.node cut.0 file change
IsDraftedAlone fsync cut file _ = ⊥

-- What was planned of a file that has an inode, over its own value: the file alone is changed, over what the disk has of it, which was taken out of the
-- value; there are boxes enough, and its last commit was seen.
pub record IsOwnDraft (fsync : WaitingFsync) (cut : Stamp) (file : File) (was now : List Cell) (draft : Draft) : Type 0 where
  pub files : List FileChange
  pub files_are : IsDraftedAlone fsync cut file files
  pub change_is : draft.plan.change ≡ planned (entries_of (fsync.node ∷ []) was) [] files [] []
  pub members : draft.plan.members.items ≡ fsync.node ∷ []
  pub nodes : draft.plan.nodes.items ≡ fsync.node ∷ []
  pub lent : now ≡ map lent_value was
  pub boxes : (after : List OldEntry) (nodes : List NodeId) → boxes_asked after nodes was ≤ length draft.spares.items
  pub seen : draft.seen.items ≡ seens_of (fsync.node ∷ []) was

-- So it was over the value of the cell that a core held.
abbrev pub IsOwnDraftOf : WaitingFsync → Stamp → File → FileHand → DraftedFsync → Type 0
IsOwnDraftOf fsync cut file before drafted = IsOwnDraft fsync cut file (values_in before.held) drafted.values.items drafted.draft
