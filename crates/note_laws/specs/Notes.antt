-- What a core noted of each core's log for one fsync, and what that tells of the commits of the run.
use Rattle.std.specs.Prelude.{◌≡◌, ℕ, ◌<◌, ◌≤◌, ◌++◌, List, filter, length, Option, Some, slice_index_or}
use Rattle.tree_laws.specs.declared.history.Entry.{Entry}
use Rattle.tree_laws.specs.Logged.{is_logged_in}
use Rattle.tree_laws.specs.Tree.{TreeState}
use Rattle.cut_laws.specs.Rules.{IsOneOf}
use Rattle.mem_cells.specs.Log.{is_from}
use Rattle.mem_cells.specs.Part.{CoreLog, changes_kept}
use Rattle.core_logs.specs.Logs.{blank_part}
use Rattle.disk_nodes.specs.OldKept.{OldKept}
use Rattle.stamp_table.specs.Events.{calls_in}
use Rattle.stamp_table.specs.declared.event.Event.{Event}
use Rattle.mem_values.specs.Account.{Account, Commitment, account_of, held_by}
use Rattle.mem_values.specs.Facts.{HasFsync, IsLawfulLog}
use Rattle.mem_values.specs.Logs.{own_logged}
use Rattle.mem_values.specs.Stands.{flushed_in, IsTrimmedFor, IsCapped, StandsPart, StandsPending}
use Rattle.mem_values.specs.declared.cell.PartCell.{PartCell}
use Rattle.mem_values.specs.declared.cell.Pending.{Pending}
use Rattle.mem_values.specs.declared.fact.Fact.{Fact}
use Rattle.mem_values.specs.declared.fact.HeldNode.{HeldNode}
use Rattle.note_laws.specs.Run.{TableRun, IsTableRun, IsToldIn}

-- Marks of a core's log, as commits trimmed it: none is above a cut that was written for its directory, and where the log was trimmed for a commit the mark
-- of each of its members has the commit's stamp at least.
pub record AreMarksOf (account : Account) (part : ℕ) (mark : ℕ → ℕ) : Type 0 where
  pub capped : (directory : ℕ) → IsCapped account directory (mark directory)
  pub trimmed : (commit : Commitment) (directory : ℕ) → IsOneOf account.commits commit → IsTrimmedFor account commit part → IsOneOf commit.members directory
      → commit.stamp ≤ mark directory

-- A log has of each directory what marks leave of what a core's calls log.
abbrev pub IsLeftBy : TreeState → List Entry → ℕ → CoreLog → (ℕ → ℕ) → Type 0
IsLeftBy first calls core log mark =
    (directory : ℕ) → changes_kept log directory ≡ filter (is_from (mark directory)) (filter (is_logged_in directory) (own_logged first core calls))

-- A log has marks: those by which it was trimmed, whether a change stood below them or none did.
pub record HasMarks (first : TreeState) (account : Account) (core : ℕ) (log : CoreLog) : Type 0 where
  pub mark : ℕ → ℕ
  pub are : AreMarksOf account core mark
  pub left : IsLeftBy first account.calls core log mark

-- So has the log of each part that stands for a lawful log.
abbrev pub PartsHaveMarks : Type 0
PartsHaveMarks = (given : ℕ → Option OldKept) (first : TreeState) (log : List (Event Fact)) (core : ℕ) (part : PartCell) → IsLawfulLog given first log
    → StandsPart first (account_of log) core part → HasMarks first (account_of log) core part.log

-- A note of a core's log: what the table's log was as its value stood for it, and its marks.
pub record PartNote : Type 0 where
  pub at : List (Event Fact)
  pub mark : ℕ → ℕ

-- What a core goes by in one of its fsyncs: what it saw of the nodes that it holds, and the cores' logs with its notes of them.
pub record CoreNotes : Type 0 where
  pub core : ℕ
  pub node : ℕ
  pub stamp : ℕ
  pub pending : ℕ → Option Pending
  pub parts : List CoreLog
  pub notes : ℕ → PartNote

-- the log of a core as it was noted
abbrev pub part_noted : CoreNotes → ℕ → CoreLog
part_noted noted part = slice_index_or noted.parts part blank_part

-- the calls of which a part was noted
abbrev pub calls_noted : CoreNotes → ℕ → List Entry
calls_noted noted part = calls_in (noted.notes part).at

-- A part was noted at a moment of the run: by then the fsync had been stamped and not answered; the log was what its marks leave of its core's changes; and
-- what the core saw of each node that it holds stood for that moment.
pub record IsNotedPart (run : TableRun) (noted : CoreNotes) (part : ℕ) : Type 0 where
  pub rest : List (Event Fact)
  pub whole : (noted.notes part).at ++ rest ≡ run.log
  pub stamped : HasFsync (calls_noted noted part) noted.core noted.node noted.stamp
  pub left : IsLeftBy run.first (calls_noted noted part) part (part_noted noted part) (noted.notes part).mark
  pub marks : AreMarksOf (account_of (noted.notes part).at) part (noted.notes part).mark
  pub stands : (node : ℕ) (value : Pending) → noted.pending node ≡ Some value
      → StandsPending run.given run.first (account_of (noted.notes part).at) node value

-- Each core's log was noted so.
pub record HasNotedAll (run : TableRun) (noted : CoreNotes) : Type 0 where
  pub as_many : length noted.parts ≡ length run.first.made
  pub each : (part : ℕ) → part < length run.first.made → IsNotedPart run noted part

-- A commit holds a node that a core saw, and has no greater number than the last one of which the core knew.
pub record IsBehind (noted : CoreNotes) (commit : Commitment) : Type 0 where
  pub node : ℕ
  pub value : Pending
  pub theirs : HeldNode
  pub seen : noted.pending node ≡ Some value
  pub holds : held_by commit node ≡ Some theirs
  pub known : commit.number ≤ value.last

-- A commit raised the cut of a directory over a stamp.
pub record RaisesOver (given : ℕ → Option OldKept) (log : List (Event Fact)) (directory stamp : ℕ) : Type 0 where
  pub commit : Commitment
  pub theirs : HeldNode
  pub told : IsToldIn log commit
  pub holds : held_by commit directory ≡ Some theirs
  pub from : (flushed_in given (account_of told.before) directory).cut ≤ stamp
  pub over : stamp < theirs.new_cut.0

-- What a note of a part tells of the commits of the run: the fsync had been stamped by then; each commit behind it had been stamped by then, the part was
-- trimmed for it, and the core saw no lower cut than it wrote; no mark is above the cut of a node that the core saw; a mark above a stamp was reached by a
-- cut that a commit told by then had raised over it; and of each commit told by then that holds a node which the core saw the core knew.
pub record NotesGive (run : TableRun) (noted : CoreNotes) (part : ℕ) : Type 0 where
  pub late : noted.stamp < length (calls_noted noted part)
  pub late_others : (commit : Commitment) → IsOneOf (account_of run.log).commits commit → IsBehind noted commit → commit.stamp < length (calls_noted noted part)
  pub trimmed : (commit : Commitment) (directory : ℕ) → IsOneOf (account_of run.log).commits commit → IsBehind noted commit → IsOneOf commit.members directory
      → commit.stamp ≤ (noted.notes part).mark directory
  pub cuts : (commit : Commitment) → IsOneOf (account_of run.log).commits commit → (behind : IsBehind noted commit)
      → behind.theirs.new_cut.0 ≤ behind.value.cut.0
  pub own_marks : (node : ℕ) (value : Pending) → noted.pending node ≡ Some value → (noted.notes part).mark node ≤ value.cut.0
  pub reached : (directory below : ℕ) → below < (noted.notes part).mark directory → RaisesOver run.given (noted.notes part).at directory below
  pub knew : (commit : Commitment) (node : ℕ) (value : Pending) (theirs : HeldNode) → IsOneOf (account_of (noted.notes part).at).commits commit
      → noted.pending node ≡ Some value → held_by commit node ≡ Some theirs → commit.number ≤ value.last

-- So each does.
abbrev pub NotesAreEnough : Type 0
NotesAreEnough = (run : TableRun) (noted : CoreNotes) (part : ℕ) → IsTableRun run → part < length run.first.made → IsNotedPart run noted part
    → NotesGive run noted part
