-- The commit of what a core made, and that a run tells it.
use Rattle.std.specs.Prelude.{if◌then◌else◌, ◌≡◌, ℕ, zero, suc, min, length, Option, None, Some, map, [], true, false, List}
use Rattle.sfs_base.specs.Listed.{is_listed}
use Rattle.tree_laws.specs.Tree.{is_directory}
use Rattle.tree_laws.specs.History.{tree_after}
use Rattle.tree_laws.specs.NameRow.{node_number}
use Rattle.disk_change.specs.Nodes.{enter_node}
use Rattle.cut_laws.specs.Rules.{IsOneOf}
use Rattle.beside_laws.specs.Commits.{CoreCommit, HasNotes, IsByItsLook}
use Rattle.dep_closure.specs.Gathered.{look_of}
use Rattle.flush_plan.specs.Moved.{cuts_after}
use Rattle.plan_laws.specs.Leads.{found_from}
use Rattle.stamp_table.specs.declared.event.Event.{Event}
use Rattle.mem_values.specs.declared.cell.Pending.{Pending}
use Rattle.mem_values.specs.declared.fact.Fact.{Fact}
use Rattle.mem_values.specs.Account.{Commitment, account_of}
use Rattle.note_laws.specs.Notes.{CoreNotes, calls_noted}
use Rattle.note_laws.specs.Run.{TableRun, calls_of, IsTableRun, TellsCommit}
use Rattle.note_laws.specs.Merged.{mark_noted, is_noted_by}
use Rattle.note_laws.specs.Joined.{IsMadeFromNotes}
use Rattle.made_laws.specs.Made.{CoreMaking, run_on, is_concerned, cut_gathered, IsPlanMade, sources_of, CoreMade}

-- the earliest of the first parts' notes, by the count of calls, or this count
abbrev pub earliest : CoreNotes → ℕ → ℕ → ℕ
earliest noted most zero = most
earliest noted most (suc part) = min (earliest noted most part) (length (calls_noted noted part))

-- the number of the last commit of a node by what a core saw of it
abbrev pub last_of_seen : Option Pending → ℕ
last_of_seen None = 0
last_of_seen (Some value) = value.last

-- the marks of a commit: of a directory those of its caller's part; of a file that the fsync concerns what was flushed of it, of any other no bound
abbrev pub mark_made : TableRun → CoreMaking → ℕ → ℕ → ℕ
mark_made run making stamp node =
    if is_directory (tree_after run.first (calls_of run)) node then mark_noted run making.noted stamp node
    else (if is_concerned making node then cut_gathered making node else length (calls_of run))

-- The commit of what a core made, under a number: it goes by what was gathered, of the calls that its notes have, and does what its plan does.
abbrev pub commit_made : TableRun → (making : CoreMaking) → IsPlanMade making → ℕ → CoreCommit
commit_made run making plans number = record {
  number = number;
  look = look_of (record { 0 = making.noted.node }) (record { 0 = making.noted.stamp }) making.gathered;
  counts = is_noted_by run making.noted;
  late = earliest making.noted (length (calls_of run)) (length run.first.made);
  mark = mark_made run making;
  members = map node_number making.concern.members.items;
  holds = is_concerned making;
  last = λ node. last_of_seen (making.noted.pending node);
  makes = record {
    lifted = cuts_after (record { 0 = making.noted.stamp }) making.gathered making.concern;
    found = found_from (sources_of making []);
    gets = is_listed (map enter_node plans.enter);
    loses = is_listed (map node_number making.plan.leave.items);
  };
}

-- A core made something for its fsync, and the run tells a commit of that.
pub record ToldMade (run : TableRun) (making : CoreMaking) (told : Commitment) : Type 0 where
  pub made : CoreMade run making
  pub tells : TellsCommit run (commit_made run making made.plans told.number) told

-- So it is in each run that goes on from there, whatever others call and tell.
abbrev pub ToldMadesGoOn : Type 0
ToldMadesGoOn = (run : TableRun) (more : List (Event Fact)) (making : CoreMaking) (told : Commitment) → IsTableRun (run_on run more)
    → ToldMade run making told → ToldMade (run_on run more) making told

-- Such a commit follows from its look and is made from its notes, so it has its notes.
pub record IsKnownMade (run : TableRun) (making : CoreMaking) (commit : CoreCommit) : Type 0 where
  pub from : IsMadeFromNotes run (record { noted = making.noted; gathered = making.gathered; commit = commit })
  pub notes : HasNotes run.first (calls_of run) commit

abbrev pub MadesAreKnown : Type 0
MadesAreKnown = (run : TableRun) (making : CoreMaking) (number : ℕ) → IsTableRun run → (made : CoreMade run making)
    → IsKnownMade run making (commit_made run making made.plans number)

-- A commit that ever is done: a core made it, or it is of a file that has an inode, follows from its look and holds no directory.
pub data IsMadeCommit (run : TableRun) (commit : CoreCommit) : Type 0 where
  by_notes : (making : CoreMaking) → (made : CoreMade run making) → commit ≡ commit_made run making made.plans commit.number → IsMadeCommit run commit
  by_file : IsByItsLook commit → ((node : ℕ) → commit.holds node ≡ true → is_directory (tree_after run.first (calls_of run)) node ≡ false)
      → IsMadeCommit run commit

-- All commits that ever are done: each is made so, and each that the run tells is one of these.
pub record AreAllMade (run : TableRun) (all : List CoreCommit) : Type 0 where
  pub made : (commit : CoreCommit) → IsOneOf all commit → IsMadeCommit run commit
  pub told : (told : Commitment) → IsOneOf (account_of run.log).commits told → (commit : CoreCommit) × IsOneOf all commit × TellsCommit run commit told
