-- Two fsyncs of two directories side by side, in each of which a file was made: what is asked of commits beside commits can be met.
use Rattle.std.specs.Prelude.{◌≡◌, ℕ, ◌<◌, ◌≤◌, ◌==◌, ◌||◌, true, false, List, [], ◌∷◌, length, None, is_some, if◌then◌else◌}
use Rattle.std.specs.FinMap.{get, empty}
use Rattle.tree_laws.specs.declared.history.Entry.{Entry}
use Rattle.tree_laws.specs.Changes.{RowChange, added, changes_of}
use Rattle.tree_laws.specs.History.{tree_after}
use Rattle.tree_laws.specs.Tree.{TreeState, is_directory}
use Rattle.cut_laws.specs.Closure.{every_entry, HasLiveNode, IsNamedIn}
use Rattle.cut_laws.specs.Cut.{Cut, cut_of, rows_at_cut}
use Rattle.cut_laws.specs.Rules.{births_of}
use Rattle.beside_laws.specs.Box.{NO_COMMIT, BoxGoesOn}
use Rattle.beside_laws.specs.Commits.{CoreCommit}
use Rattle.beside_laws.specs.Progress.{Progress, KnownAtReserving}
use Rattle.beside_laws.specs.Steps.{IsLegalRun, IsMidst}

-- the run before any commit
abbrev pub run_begun : TreeState → List Entry → Progress
run_begun first history = record { first = first; history = history; done = []; cut = empty; inodes = λ node. is_some (get first.nodes node) }

-- One of the two: the directory, the stamp at which a file was made in it under a name, the file, and the stamp of the directory's fsync.
pub record MadeIn : Type 0 where
  pub directory : ℕ
  pub stamp : ℕ
  pub name : List ℕ
  pub file : ℕ
  pub fsync : ℕ

-- file 3 is made in directory 1 at stamp 0, which is flushed at stamp 2; file 4 in directory 2 at stamp 1, which is flushed at stamp 3
abbrev pub ONE : List ℕ → MadeIn
ONE name = record { directory = 1; stamp = 0; name = name; file = 3; fsync = 2 }

abbrev pub TWO : List ℕ → MadeIn
TWO name = record { directory = 2; stamp = 1; name = name; file = 4; fsync = 3 }

-- the change by which it was made
abbrev pub making : MadeIn → RowChange
making made = added made.stamp made.directory made.name made.file None

-- What the history says of one of the two: its directory was there at first and is one, is alive at the fsync and named at every cut; the file is
-- new, and named where its making lies below the cut.
pub record HasMadeFile (first : TreeState) (history : List Entry) (made : MadeIn) : Type 0 where
  pub live : HasLiveNode first history (record { node = made.directory; stamp = made.fsync })
  pub directory : is_directory (tree_after first history) made.directory ≡ true
  pub there : is_some (get first.nodes made.directory) ≡ true
  pub new : is_some (get first.nodes made.file) ≡ false
  pub stays : (raised : Cut) → IsNamedIn (rows_at_cut first history raised) made.directory
  pub placed : (raised : Cut) → made.stamp < cut_of raised made.directory → IsNamedIn (rows_at_cut first history raised) made.file

-- A legal history makes these two files under two names, and no other row comes or goes.
pub record TwoMakes (first : TreeState) (history : List Entry) (name other_name : List ℕ) : Type 0 where
  pub run : IsLegalRun (run_begun first history)
  pub changes : changes_of first history ≡ making (ONE name) ∷ making (TWO other_name) ∷ []
  pub births : births_of first history
      ≡ record { stamp = 0; directory = 1; node = 3 } ∷ record { stamp = 1; directory = 2; node = 4 } ∷ []
  pub long : 3 ≤ length history
  pub one : HasMadeFile first history (ONE name)
  pub two : HasMadeFile first history (TWO other_name)

-- the commit of the directory's fsync, as its core makes it from all that both cores have logged
abbrev pub commit_of_making : List ℕ → List ℕ → ℕ → MadeIn → CoreCommit
commit_of_making name other_name number made = record {
  number = number;
  look = record {
    flush = record { node = made.directory; stamp = made.fsync };
    cut = λ _. 0;
    inodes = λ node. node == made.directory;
    born = record { node = 3; directory = 1 } ∷ record { node = 4; directory = 2 } ∷ [];
    noted = record { change = making (ONE name); above = [] } ∷ record { change = making (TWO other_name); above = [] } ∷ [];
  };
  counts = every_entry;
  late = made.fsync;
  mark = λ _ _. 0;
  members = made.directory ∷ [];
  holds = λ node. node == made.directory || node == made.file;
  last = λ _. 0;
  makes = record {
    lifted = λ node. if node == made.directory then made.fsync else 0;
    found = record { named = λ _. true; directory = true };
    gets = λ node. node == made.file;
    loses = λ _. false;
  };
}

abbrev pub first_of_two : List ℕ → List ℕ → CoreCommit
first_of_two name other_name = commit_of_making name other_name 1 (ONE name)

abbrev pub second_of_two : List ℕ → List ℕ → CoreCommit
second_of_two name other_name = commit_of_making name other_name 2 (TWO other_name)

-- Both are known as they reserve, neither is moved, and with both waiting it is the midst of a record.
pub record TwoAreOpen (first : TreeState) (history : List Entry) (name other_name : List ℕ) : Type 0 where
  pub one : KnownAtReserving (run_begun first history) (first_of_two name other_name)
  pub two : KnownAtReserving (run_begun first history) (second_of_two name other_name)
  pub box : BoxGoesOn NO_COMMIT
      (record { done = []; opens = first_of_two name other_name ∷ second_of_two name other_name ∷ []; number = 2 })
  pub midst : IsMidst (record {
    run = run_begun first history;
    waiting = first_of_two name other_name ∷ second_of_two name other_name ∷ [];
    flying = [];
    used = [];
  })

-- So it is for each such history.
abbrev pub TwoMayBeOpen : Type 0
TwoMayBeOpen = (first : TreeState) (history : List Entry) (name other_name : List ℕ) → TwoMakes first history name other_name
    → TwoAreOpen first history name other_name
