-- What a core made of what it saw for one of its fsyncs: this is what the agreement of a core and its pen says of each, and a program may cite it.
use Rattle.std.specs.Prelude.{◌≡◌, ◌<◌, ◌↔◌, ◌++◌, ◌∷◌, ◌≤◌, ℕ, Bool, true, false, List, [], length, map, Option, Some, None, is_some, Contains}
use Rattle.sfs_base.specs.Listed.{is_listed}
use Rattle.keyed_list.specs.Ascending.{AscendBy}
use Rattle.tree_laws.specs.NameRow.{node_number, number_of}
use Rattle.tree_laws.specs.Tree.{is_directory}
use Rattle.tree_laws.specs.History.{tree_after}
use Rattle.disk_nodes.specs.declared.old.OldEntry.{OldEntry}
use Rattle.disk_nodes.specs.OldKept.{OldKept}
use Rattle.disk_nodes.specs.Nodes.{entry_node}
use Rattle.disk_change.specs.AllBuilt.{entry_keyed}
use Rattle.disk_change.specs.Planned.{planned}
use Rattle.disk_change.specs.declared.files.FileChange.{FileChange}
use Rattle.cut_laws.specs.Closure.{Flush}
use Rattle.cut_laws.specs.Rules.{IsOneOf}
use Rattle.dep_closure.specs.declared.gathered.Gathered.{Gathered}
use Rattle.dep_closure.specs.Gathered.{cut_in, born_as, IsOrderly}
use Rattle.flush_plan.specs.declared.concern.Concern.{Concern}
use Rattle.flush_plan.specs.declared.plans.FsyncPlan.{FsyncPlan}
use Rattle.flush_plan.specs.Touched.{IsFileChange}
use Rattle.flush_plan.specs.Concerned.{IsConcernOf}
use Rattle.plan_laws.specs.Plans.{Sources, IsPlanFrom}
use Rattle.stamp_table.specs.Events.{calls_in}
use Rattle.stamp_table.specs.declared.event.Event.{Event}
use Rattle.mem_values.specs.declared.cell.Pending.{Pending}
use Rattle.mem_values.specs.declared.fact.Fact.{Fact}
use Rattle.mem_values.specs.Facts.{HasFsync}
use Rattle.mem_values.specs.Stands.{StandsPending}
use Rattle.mem_values.specs.Account.{account_of}
use Rattle.note_laws.specs.Notes.{CoreNotes, HasNotedAll}
use Rattle.note_laws.specs.Merged.{AreMergedFor}
use Rattle.note_laws.specs.Run.{TableRun, calls_of, IsTableRun}
use Rattle.note_laws.specs.Joined.{CopiedFile}

-- What a core made for an fsync: what it goes by, what it gathered of that, the nodes that it concerns, what the disk has of these, whether its own node is
-- a file, the change of its bytes, and the plan.
pub record CoreMaking : Type 0 where
  pub noted : CoreNotes
  pub gathered : Gathered
  pub concern : Concern
  pub old : List OldEntry
  pub is_file : Bool
  pub change : Option FileChange
  pub plan : FsyncPlan

-- what its plan is made from, where memory keeps these entries of the disk
abbrev pub sources_of : CoreMaking → List OldEntry → Sources
sources_of making entries = record {
  entries = entries;
  start = record { 0 = making.noted.node };
  below = record { 0 = making.noted.stamp };
  gathered = making.gathered;
  concern = making.concern;
  old = making.old;
  is_file = making.is_file;
  change = making.change;
  plan = making.plan;
}

-- the plan is that of what it was made from
abbrev pub IsPlanMade : CoreMaking → Type 0
IsPlanMade making = IsPlanFrom (sources_of making [])

-- whether the fsync concerns a node
abbrev pub is_concerned : CoreMaking → ℕ → Bool
is_concerned making node = is_listed (map node_number making.concern.nodes.items) node

-- the stamp in a node's cut, as it was gathered
abbrev pub cut_gathered : CoreMaking → ℕ → ℕ
cut_gathered making node = cut_in making.gathered.cuts.items node

-- whether a node has an inode, as it was gathered
abbrev pub inode_gathered : CoreMaking → ℕ → Bool
inode_gathered making node = is_listed (map node_number making.gathered.inodes.items) node

-- What was gathered of a node is what the core saw of it: its cut, whether it has an inode, and where it was made.
pub record GathersSeen (making : CoreMaking) (node : ℕ) (value : Pending) : Type 0 where
  pub seen : making.noted.pending node ≡ Some value
  pub cut : cut_gathered making node ≡ value.cut.0
  pub inode : inode_gathered making node ≡ is_some value.old
  pub born : (directory : ℕ) → IsOneOf (map born_as making.gathered.births.items) (record { node = node; directory = directory })
      ↔ (number_of value.made_in ≡ Some directory)

-- What was gathered: lists in order, the changes of directories that are merged of copies of all parts, and of each node that the fsync concerns what the core
-- saw, of any other no cut. The root has an inode.
pub record HasGathered (making : CoreMaking) : Type 0 where
  pub orderly : IsOrderly making.gathered
  pub merged : AreMergedFor making.noted making.gathered.logs.items
  pub seen : (node : ℕ) → is_concerned making node ≡ true → (value : Pending) × GathersSeen making node value
  pub others : (node : ℕ) → is_concerned making node ≡ false → cut_gathered making node ≡ 0
  pub root : is_concerned making 0 ≡ true → inode_gathered making 0 ≡ true

-- what the disk has of a node by what a core saw of it
abbrev pub old_of : Option Pending → Option OldKept
old_of None = None
old_of (Some value) = value.old

-- Of the nodes that the fsync concerns it has exactly what the core saw that the disk has of them.
pub record HasSeenOld (making : CoreMaking) : Type 0 where
  pub ascend : AscendBy entry_node making.old
  pub each : (node : ℕ) (kept : OldKept) → Contains making.old (entry_keyed (node, kept))
      ↔ ((is_concerned making node ≡ true) × (old_of (making.noted.pending node) ≡ Some kept))

-- The change of an fsync's own file is made from a copy: the value that the file's cell had as the core drew the stamp, from the cut on that the core saw.
pub record IsMadeOfCopy (run : TableRun) (flush : Flush) (cut : ℕ) (change : FileChange) : Type 0 where
  pub copied : CopiedFile run
  pub own : copied.node ≡ flush.node
  pub drawn : length (calls_in copied.at) ≡ flush.stamp
  pub is : IsFileChange (record { 0 = flush.node }) cut copied.value.file change

-- the fsync
abbrev pub making_flush : CoreMaking → Flush
making_flush making = record { node = making.noted.node; stamp = making.noted.stamp }

-- Its own node's bytes: a directory has none; of a file of which something later than the stamp was flushed it may have no change; and of any file it may
-- have the one that is made from the copy.
pub data HasMadeFile (run : TableRun) (making : CoreMaking) : Type 0 where
  directory : is_directory (tree_after run.first (calls_of run)) making.noted.node ≡ true → making.is_file ≡ false → making.change ≡ None
      → HasMadeFile run making
  too_late : is_directory (tree_after run.first (calls_of run)) making.noted.node ≡ false → making.is_file ≡ true → making.change ≡ None
      → making.noted.stamp < cut_gathered making making.noted.node → HasMadeFile run making
  in_copy : (change : FileChange) → is_directory (tree_after run.first (calls_of run)) making.noted.node ≡ false → making.is_file ≡ true
      → making.change ≡ Some change → IsMadeOfCopy run (making_flush making) (cut_gathered making making.noted.node) change → HasMadeFile run making

-- A core made all of this by what it has seen so far, which is a run of the table up to there: it noted all parts; what was gathered, what the fsync
-- concerns and the old entries are by these notes; and the plan is made of them.
pub record CoreMade (run : TableRun) (making : CoreMaking) : Type 0 where
  pub some_core : 0 < length run.first.made
  pub notes : HasNotedAll run making.noted
  pub gathers : HasGathered making
  pub concern_is : IsConcernOf (record { 0 = making.noted.node }) (record { 0 = making.noted.stamp }) making.gathered making.concern
  pub old_is : HasSeenOld making
  pub file_is : HasMadeFile run making
  pub plans : IsPlanMade making

-- a run that goes on with these events
abbrev pub run_on : TableRun → List (Event Fact) → TableRun
run_on run more = record { given = run.given; first = run.first; log = run.log ++ more }

-- What a core made so far it made so in each run that goes on from there, whatever others call and tell.
abbrev pub MadesGoOn : Type 0
MadesGoOn = (run : TableRun) (more : List (Event Fact)) (making : CoreMaking) → IsTableRun (run_on run more) → CoreMade run making
    → CoreMade (run_on run more) making

-- What a core made for the fsync of a file that has an inode, which gathers nothing: whose it is, what the core saw of the file's node, what the disk has of
-- it, and the changes of the file.
pub record OwnFileMaking : Type 0 where
  pub core : ℕ
  pub node : ℕ
  pub stamp : ℕ
  pub value : Pending
  pub kept : OldKept
  pub files : List FileChange

-- the fsync
abbrev pub own_flush : OwnFileMaking → Flush
own_flush own = record { node = own.node; stamp = own.stamp }

-- Where something later than the stamp was flushed of the file there is no change of it, else the one that is made from the copy.
pub data OwnFileChanges (run : TableRun) (own : OwnFileMaking) : Type 0 where
  too_late : own.files ≡ [] → own.stamp < own.value.cut.0 → OwnFileChanges run own
  in_copy : (change : FileChange) → own.files ≡ change ∷ [] → own.value.cut.0 ≤ own.stamp
      → IsMadeOfCopy run (own_flush own) own.value.cut.0 change → OwnFileChanges run own

-- A core made this by what it has seen so far: at some moment, when the fsync waited, the value that it saw of the file's node stood, and has an inode.
pub record OwnFileMade (run : TableRun) (own : OwnFileMaking) : Type 0 where
  pub at : List (Event Fact)
  pub rest : List (Event Fact)
  pub whole : at ++ rest ≡ run.log
  pub stamped : HasFsync (calls_in at) own.core own.node own.stamp
  pub stands : StandsPending run.given run.first (account_of at) own.node own.value
  pub is_file : is_directory (tree_after run.first (calls_of run)) own.node ≡ false
  pub has : own.value.old ≡ Some own.kept
  pub changes : OwnFileChanges run own

-- So it did in each run that goes on from there.
abbrev pub OwnsGoOn : Type 0
OwnsGoOn = (run : TableRun) (more : List (Event Fact)) (own : OwnFileMaking) → IsTableRun (run_on run more) → OwnFileMade run own
    → OwnFileMade (run_on run more) own

-- What a core made for the fsync of a file that has an inode, in the words of what it makes for any fsync: this noted no log, concerns the file's node alone,
-- has its entry, and changes nothing but the file.
pub record OwnMade (run : TableRun) (making : CoreMaking) : Type 0 where
  pub own : OwnFileMaking
  pub made : OwnFileMade run own
  pub core_is : making.noted.core ≡ own.core
  pub flush_is : making_flush making ≡ own_flush own
  pub no_parts : making.noted.parts ≡ []
  pub concerns : making.concern.nodes.items ≡ record { 0 = own.node } ∷ []
  pub members_are : making.concern.members.items ≡ record { 0 = own.node } ∷ []
  pub saw : making.noted.pending own.node ≡ Some own.value
  pub old_is : making.old ≡ entry_keyed (own.node, own.kept) ∷ []
  pub change_is : making.plan.change ≡ planned making.old [] own.files [] []

-- What a core made for an fsync it made in a run: by its notes of all logs, or by its own file alone.
pub data MadeEitherWay (run : TableRun) (making : CoreMaking) : Type 0 where
  of_notes : CoreMade run making → MadeEitherWay run making
  of_file : OwnMade run making → MadeEitherWay run making

-- So it did in each run that goes on from there.
abbrev pub MakingsGoOn : Type 0
MakingsGoOn = (run : TableRun) (more : List (Event Fact)) (making : CoreMaking) → IsTableRun (run_on run more) → MadeEitherWay run making
    → MadeEitherWay (run_on run more) making
