-- What an fsync was planned from.
use Rattle.std.specs.Prelude.{◌≡◌, ◌<◌, ◌≤◌, ℕ, Bool, true, false, List, map, Option, Some, None}
use Rattle.sfs_base.specs.declared.numbers.NodeId.{NodeId}
use Rattle.sfs_base.specs.declared.numbers.Stamp.{Stamp}
use Rattle.mem_files.specs.File.{File}
use Rattle.tree_laws.specs.declared.history.Entry.{Entry}
use Rattle.tree_laws.specs.History.{tree_after}
use Rattle.tree_laws.specs.NameRow.{node_number}
use Rattle.tree_laws.specs.Tree.{TreeState, is_directory}
use Rattle.disk_nodes.specs.declared.old.OldEntry.{OldEntry}
use Rattle.disk_change.specs.declared.files.FileChange.{FileChange}
use Rattle.cut_laws.specs.Closure.{Counts, every_entry, Flush, HasLiveNode}
use Rattle.cut_laws.specs.Cut.{Cut, cut_of}
use Rattle.cut_laws.specs.Rules.{IsOneOf}
use Rattle.look_laws.specs.Fit.{KnowsEnough}
use Rattle.look_laws.specs.Beside.{Knows}
use Rattle.dep_closure.specs.declared.gathered.DirectoryChanges.{DirectoryChanges}
use Rattle.dep_closure.specs.declared.gathered.Gathered.{Gathered}
use Rattle.dep_closure.specs.Gathered.{look_of, IsOrderly}
use Rattle.dep_closure.specs.History.{IsLogOf, HasUnflushed}
use Rattle.flush_laws.specs.Planned.{HasOldEntries}
use Rattle.flush_laws.specs.Volume.{Volume}
use Rattle.flush_laws.specs.Ready.{IsBetweenCommits, KeepsEntries}
use Rattle.flush_plan.specs.declared.concern.Concern.{Concern}
use Rattle.flush_plan.specs.declared.plans.FsyncPlan.{FsyncPlan}
use Rattle.flush_plan.specs.Concerned.{IsConcernOf}
use Rattle.flush_plan.specs.Plan.{IsPlanOf}
use Rattle.flush_plan.specs.Touched.{IsFileChange}
use Rattle.mark_laws.specs.Changed.{HasShortFiles}
use Rattle.mark_laws.specs.FileAt.{IsFileAt}

-- the fsync of a node at a stamp
abbrev pub planned_flush : NodeId → Stamp → Flush
planned_flush start below = record { node = start.0; stamp = below.0 }

-- A file changes by what it is at the fsync's stamp, from its cut on.
abbrev pub ChangesByFile : TreeState → List Entry → Cut → NodeId → Stamp → FileChange → Type 0
ChangesByFile first history cut start below change =
    (file : File) × IsFileAt first history start.0 below.0 file × IsFileChange start (cut_of cut start.0) file change

-- What an fsync has of its own node's bytes: of a directory nothing; of a file of which something later than the fsync's stamp was flushed it may
-- have nothing; and of any file it may have the change by what the file is at the stamp.
abbrev pub HasFileOf : TreeState → List Entry → Cut → NodeId → Stamp → Bool → Option FileChange → Type 0
HasFileOf first history cut start below false change = (is_directory (tree_after first history) start.0 ≡ true) × (change ≡ None)
HasFileOf first history cut start below true None = (is_directory (tree_after first history) start.0 ≡ false) × (below.0 < cut_of cut start.0)
HasFileOf first history cut start below true (Some change) =
    (is_directory (tree_after first history) start.0 ≡ false) × ChangesByFile first history cut start below change

-- What was gathered is enough of the entries below a stamp: all of these count, and no cut nor the fsync's stamp is above it; each log has what
-- the history logs at stamps that count; the look knows enough of what counts; and the fsync's node is alive.
pub record HasEarly (first : TreeState) (history : List Entry) (cut : Cut) (inodes : ℕ → Bool) (start : NodeId) (below : Stamp)
    (gathered : Gathered) : Type 0 where
  pub late : ℕ
  pub counts : Counts
  pub counted : (stamp : ℕ) → stamp < late → counts stamp ≡ true
  pub cuts : (node : ℕ) → cut_of cut node ≤ late
  pub stamp : below.0 ≤ late
  pub logs : (log : DirectoryChanges) → IsOneOf gathered.logs.items log → IsLogOf first history counts log
  pub knows : KnowsEnough first history counts cut inodes (look_of start below gathered)
  pub live : HasLiveNode first history (planned_flush start below)

-- What was gathered is enough while other commits go on: each log has what the history logs at stamps that count, and the look knows enough of what
-- counts, whatever cuts the nodes have that it does not touch.
pub record HasBeside (first : TreeState) (history : List Entry) (cut : Cut) (inodes : ℕ → Bool) (start : NodeId) (below : Stamp)
    (gathered : Gathered) : Type 0 where
  pub late : ℕ
  pub counts : Counts
  pub logs : (log : DirectoryChanges) → IsOneOf gathered.logs.items log → IsLogOf first history counts log
  pub knows : Knows (record { first = first; history = history; counts = counts; late = late; look = look_of start below gathered }) cut inodes

-- What was gathered is enough for an fsync: all of the history that is not flushed; or enough of the entries below a stamp, though later ones
-- may be missing, and so may nodes that the fsync does not concern; or enough while other commits go on.
pub data GathersEnough (first : TreeState) (history : List Entry) (cut : Cut) (inodes : ℕ → Bool) (start : NodeId) (below : Stamp)
    (gathered : Gathered) : Type 0 where
  whole : HasUnflushed first history every_entry cut inodes gathered → GathersEnough first history cut inodes start below gathered
  early : HasEarly first history cut inodes start below gathered → GathersEnough first history cut inodes start below gathered
  beside : HasBeside first history cut inodes start below gathered → GathersEnough first history cut inodes start below gathered

-- What an fsync is planned from, with its plan: what memory keeps of the disk, the node and the stamp, what was gathered, the nodes that it
-- concerns and what the disk has of them, whether the node is a file, and the change of its bytes.
pub record Sources : Type 0 where
  pub entries : List OldEntry
  pub start : NodeId
  pub below : Stamp
  pub gathered : Gathered
  pub concern : Concern
  pub old : List OldEntry
  pub is_file : Bool
  pub change : Option FileChange
  pub plan : FsyncPlan

-- the plan is that of these
abbrev pub IsPlanFrom : Sources → Type 0
IsPlanFrom from = IsPlanOf from.start from.below from.gathered from.concern from.old from.is_file from.change from.plan

-- What an fsync was planned from: two commits have left disk and memory as they are between them; what was gathered is enough of the
-- history; the disk's entries are those of the nodes that it concerns; and the file is the node's, where it is one.
pub record PlansFsync (volume : Volume) (from : Sources) : Type 0 where
  pub ready : IsBetweenCommits volume
  pub keeps : KeepsEntries volume.num volume.parts from.entries
  pub short : HasShortFiles volume.first
  pub orderly : IsOrderly from.gathered
  pub gathers : GathersEnough volume.first volume.history volume.cut volume.inodes from.start from.below from.gathered
  pub concern_is : IsConcernOf from.start from.below from.gathered from.concern
  pub old_is : HasOldEntries (map node_number from.concern.nodes.items) from.entries from.old
  pub file_is : HasFileOf volume.first volume.history volume.cut from.start from.below from.is_file from.change
  pub plans : IsPlanFrom from
