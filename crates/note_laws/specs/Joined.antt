-- What a commit made from a core's notes has as it reserves.
use Rattle.std.specs.Prelude.{◌≡◌, ◌⊎◌, ◌↔◌, ◌<◌, ◌≤◌, ◌++◌, ℕ, Bool, true, false, List, length, map, Some, is_some}
use Rattle.mem_files.specs.File.{File}
use Rattle.tree_laws.specs.declared.history.Entry.{Entry}
use Rattle.tree_laws.specs.History.{tree_after}
use Rattle.tree_laws.specs.NameRow.{number_of}
use Rattle.tree_laws.specs.Tree.{is_directory, TreeState}
use Rattle.cut_laws.specs.Cut.{Cut}
use Rattle.cut_laws.specs.Rules.{IsOneOf}
use Rattle.cut_laws.specs.Closure.{Counts}
use Rattle.beside_laws.specs.Answers.{asked}
use Rattle.beside_laws.specs.Box.{BoxState, IsUnmoved, BoxGives}
use Rattle.beside_laws.specs.Commits.{CoreCommit, IsByItsLook, HasNotes}
use Rattle.beside_laws.specs.Progress.{Progress, KnownAtReserving}
use Rattle.dep_closure.specs.Gathered.{look_of}
use Rattle.dep_closure.specs.declared.gathered.Gathered.{Gathered}
use Rattle.dep_closure.specs.declared.gathered.DirectoryChanges.{DirectoryChanges}
use Rattle.dep_closure.specs.History.{IsLogOf}
use Rattle.raise_laws.specs.Next.{IsMountedHistory}
use Rattle.mark_laws.specs.FileAt.{IsFileAt}
use Rattle.stamp_table.specs.declared.event.Event.{Event}
use Rattle.stamp_table.specs.Events.{calls_in}
use Rattle.mem_values.specs.Account.{Commitment, account_of}
use Rattle.mem_values.specs.declared.cell.Pending.{Pending}
use Rattle.mem_values.specs.declared.fact.Fact.{Fact}
use Rattle.mem_values.specs.declared.cell.FileCell.{FileCell}
use Rattle.mem_values.specs.Stands.{StandsFile}
use Rattle.home_laws.specs.Laws.{IsNodeOf}
use Rattle.note_laws.specs.Run.{TableRun, calls_of, IsTableRun, TellsCommit, AreToldIn}
use Rattle.note_laws.specs.Notes.{CoreNotes, calls_noted, HasNotedAll}
use Rattle.note_laws.specs.Merged.{is_noted_by, mark_noted, AreMergedFor}

-- A core's notes for an fsync, what it gathered of them, and the commit that it made.
pub record NotedCommit : Type 0 where
  pub noted : CoreNotes
  pub gathered : Gathered
  pub commit : CoreCommit

-- What a commit has of a node that it holds is the value that its core saw, of a node that was there as one of the parts was noted.
pub record HasSeen (run : TableRun) (made : NotedCommit) (node : ℕ) (value : Pending) : Type 0 where
  pub seen : made.noted.pending node ≡ Some value
  pub cut : made.commit.look.cut node ≡ value.cut.0
  pub inode : made.commit.look.inodes node ≡ is_some value.old
  pub last : made.commit.last node ≡ value.last
  pub born : (directory : ℕ) → IsOneOf made.commit.look.born (record { node = node; directory = directory }) ↔ (number_of value.made_in ≡ Some directory)
  pub part : ℕ
  pub known : part < length run.first.made
  pub there : IsNodeOf (tree_after run.first (calls_noted made.noted part)) node

-- The marks of a commit, by the stamp of a call: of a directory that of the part of the call's core; of any other node, which no part has changes of, what
-- was flushed of it where the commit holds it, and else the end of the run's calls.
pub record HasNotedMarks (run : TableRun) (made : NotedCommit) : Type 0 where
  pub directories : (stamp node : ℕ) → is_directory (tree_after run.first (calls_of run)) node ≡ true
      → made.commit.mark stamp node ≡ mark_noted run made.noted stamp node
  pub held : (stamp node : ℕ) → is_directory (tree_after run.first (calls_of run)) node ≡ false → made.commit.holds node ≡ true
      → made.commit.mark stamp node ≡ made.commit.look.cut node
  pub others : (stamp node : ℕ) → is_directory (tree_after run.first (calls_of run)) node ≡ false → made.commit.holds node ≡ false
      → made.commit.mark stamp node ≡ length (calls_of run)

-- A commit is made from notes: all parts were noted, and its look is what was merged of copies of them; it follows from its look; those calls count of which its notes
-- know, and all below the earliest note; its marks are those of the parts; and of each node that it holds it has what its core saw.
pub record IsMadeFromNotes (run : TableRun) (made : NotedCommit) : Type 0 where
  pub some_core : 0 < length run.first.made
  pub has : HasNotedAll run made.noted
  pub merged : AreMergedFor made.noted made.gathered.logs.items
  pub look : made.commit.look ≡ look_of (record { 0 = made.noted.node }) (record { 0 = made.noted.stamp }) made.gathered
  pub by_look : IsByItsLook made.commit
  pub counts : made.commit.counts ≡ is_noted_by run made.noted
  pub early : (part : ℕ) → part < length run.first.made → made.commit.late ≤ length (calls_noted made.noted part)
  pub late : (stamp : ℕ) → ((part : ℕ) → part < length run.first.made → stamp ≤ length (calls_noted made.noted part)) → stamp ≤ made.commit.late
  pub marks : HasNotedMarks run made
  pub seen : (node : ℕ) → made.commit.holds node ≡ true → (value : Pending) × HasSeen run made node value

-- Such a commit has its notes.
abbrev pub MadeHaveNotes : Type 0
MadeHaveNotes = (run : TableRun) (made : NotedCommit) → IsTableRun run → IsMadeFromNotes run made → HasNotes run.first (calls_of run) made.commit

-- A commit has notes, or is one that holds no directory.
abbrev pub NotesOrFiles : TableRun → CoreCommit → Type 0
NotesOrFiles run commit = HasNotes run.first (calls_of run) commit
    ⊎ ((node : ℕ) → commit.holds node ≡ true → is_directory (tree_after run.first (calls_of run)) node ≡ false)

-- All commits of a run that ever are done: each follows from its look, and has notes or holds no directory; and each that the run tells is one of these.
pub record AreAllOf (run : TableRun) (all : List CoreCommit) : Type 0 where
  pub by_look : (commit : CoreCommit) → IsOneOf all commit → IsByItsLook commit
  pub notes : (commit : CoreCommit) → IsOneOf all commit → NotesOrFiles run commit
  pub told : (told : Commitment) → IsOneOf (account_of run.log).commits told → (commit : CoreCommit) × IsOneOf all commit × TellsCommit run commit told

-- What the box knows as a commit reserves: it is not moved, which gives what it does; those that are done are of all, and are told.
pub record BoxKnows (run : TableRun) (box : BoxState) (all : List CoreCommit) (commit : CoreCommit) : Type 0 where
  pub unmoved : IsUnmoved box commit
  pub gives : BoxGives box all commit
  pub among : (other : CoreCommit) → IsOneOf box.done other → IsOneOf all other
  pub told : AreToldIn run box.done

-- A commit as it reserves: the run of the table, how it was made, the box at that moment, and all commits that ever are done.
pub record Reserving : Type 0 where
  pub run : TableRun
  pub made : NotedCommit
  pub box : BoxState
  pub all : List CoreCommit

-- It is what it seems: the run is a table's, the commit is made from its notes, and the box knows what it knows.
pub record MayReserve (at : Reserving) : Type 0 where
  pub table : IsTableRun at.run
  pub notes : IsMadeFromNotes at.run at.made
  pub all_of : AreAllOf at.run at.all
  pub box_knows : BoxKnows at.run at.box at.all at.made.commit

-- the run so far, of whose cut and inodes nothing is said
abbrev pub progress_at : Reserving → Cut → (ℕ → Bool) → Progress
progress_at at cut inodes = record { first = at.run.first; history = calls_of at.run; done = at.box.done; cut = cut; inodes = inodes }

-- Then it is known as it reserves: it has its notes, is ruled by those that are done, and saw what they left.
abbrev pub JoinsGive : Type 0
JoinsGive = (at : Reserving) (cut : Cut) (inodes : ℕ → Bool) → MayReserve at → KnownAtReserving (progress_at at cut inodes) at.made.commit

-- So it is in each history that asks the same, whatever its fsyncs were answered.
abbrev pub KnownWhateverAnswered : Type 0
KnownWhateverAnswered = (progress : Progress) (history : List Entry) (commit : CoreCommit) → map asked progress.history ≡ map asked history
    → KnownAtReserving progress commit → KnownAtReserving (record progress { history = history }) commit

-- So is each log of a history, and each copy of a file as it is at a stamp.
pub record IsAlikeIn (first : TreeState) (history other : List Entry) : Type 0 where
  pub logs : (counts : Counts) (log : DirectoryChanges) → IsLogOf first history counts log → IsLogOf first other counts log
  pub files : (node stamp : ℕ) (file : File) → IsFileAt first history node stamp file → IsFileAt first other node stamp file

abbrev pub AlikeWhateverAnswered : Type 0
AlikeWhateverAnswered = (first : TreeState) (history other : List Entry) → map asked history ≡ map asked other → IsAlikeIn first history other

-- A core copied a file as it drew a stamp: the value of the file's cell stood for the calls up to there.
pub record CopiedFile (run : TableRun) : Type 0 where
  pub at : List (Event Fact)
  pub rest : List (Event Fact)
  pub whole : at ++ rest ≡ run.log
  pub node : ℕ
  pub value : FileCell
  pub stands : StandsFile run.first (calls_in at) node value

-- The copy is the file of the whole run at that stamp.
abbrev pub CopiesAreFiles : Type 0
CopiesAreFiles = (run : TableRun) (copied : CopiedFile run) → IsMountedHistory run.first (calls_of run)
    → IsFileAt run.first (calls_of run) copied.node (length (calls_in copied.at)) copied.value.file
