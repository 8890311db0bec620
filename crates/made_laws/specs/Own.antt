-- The commit of a file that has an inode, as its core made it by its own value alone.
use Rattle.std.specs.Prelude.{◌≡◌, ◌==◌, ◌&&◌, ◌||◌, if◌then◌else◌, ◌∷◌, ℕ, Bool, true, false, not, max, List, [], map, filter, fold, length, nat_lt}
use Rattle.std.specs.FinMap.{FinMap}
use Rattle.tree_laws.specs.declared.history.Entry.{Entry}
use Rattle.tree_laws.specs.Changes.{RowChange, changes_of}
use Rattle.tree_laws.specs.Order.{key_cmp}
use Rattle.tree_laws.specs.Tree.{TreeState, is_alive, is_directory}
use Rattle.tree_laws.specs.History.{tree_after, IsLegal}
use Rattle.tree_laws.specs.Laws.{IsSoundTree}
use Rattle.cut_laws.specs.Closure.{every_entry}
use Rattle.cut_laws.specs.Cut.{with_own}
use Rattle.cut_laws.specs.Rules.{births_of}
use Rattle.look_laws.specs.Look.{Look}
use Rattle.beside_laws.specs.Commits.{CoreCommit, IsByItsLook}
use Rattle.beside_laws.specs.OwnFile.{born_at, noted_alone}
use Rattle.stamp_table.specs.declared.event.Event.{Event}
use Rattle.mem_values.specs.declared.fact.Fact.{Fact}
use Rattle.mem_values.specs.Account.{Commitment}
use Rattle.note_laws.specs.Run.{TableRun, IsTableRun, TellsCommit}
use Rattle.made_laws.specs.Made.{CoreMaking, OwnFileMaking, OwnMade, own_flush, run_on}
use Rattle.made_laws.specs.Tells.{ToldMade}

-- whether a change names a node and does not lie below the stamp of its directory
abbrev pub names_past : (ℕ → ℕ) → ℕ → RowChange → Bool
names_past cuts node change = change.child == node && not (nat_lt change.stamp (cuts change.directory))

-- the changes of a history that do
abbrev pub namings_past : TreeState → List Entry → (ℕ → ℕ) → ℕ → List RowChange
namings_past first history cuts node = filter (names_past cuts node) (changes_of first history)

-- whether there is none
abbrev pub are_none : List RowChange → Bool
are_none [] = true
are_none (change ∷ changes) = false

-- whether a change lies below the stamp of its directory
abbrev pub is_below : (ℕ → ℕ) → RowChange → Bool
is_below cuts change = nat_lt change.stamp (cuts change.directory)

-- the rows of a history at these stamps of directories
abbrev pub rows_below : TreeState → List Entry → (ℕ → ℕ) → FinMap key_cmp ℕ
rows_below first history cuts = fold with_own first.rows (filter (is_below cuts) (changes_of first history))

-- whether a row names a node there, or the node is the root
abbrev pub is_named_below : TreeState → List Entry → (ℕ → ℕ) → ℕ → Bool
is_named_below first history cuts node = is_alive (record first { rows = rows_below first history cuts }) node

-- The look that the fsync of such a file would have had in a history where directories were flushed up to these stamps: the file's value as it was seen, its
-- births, and the changes that name it and are not flushed.
abbrev pub look_of_own : TreeState → List Entry → (ℕ → ℕ) → OwnFileMaking → Look
look_of_own first history cuts own = record {
  flush = own_flush own;
  cut = λ node. if node == own.node then own.value.cut.0 else 0;
  inodes = λ node. node == own.node;
  born = map born_at (filter (λ birth. birth.node == own.node) (births_of first history));
  noted = map noted_alone (namings_past first history cuts own.node);
}

-- Its commit by that look, under a number: the file's stamp becomes the fsync's at least, and no node gets or loses an inode. A row names the file, where
-- one does at these stamps; and where no change that names it is left, one that does is on the disk.
abbrev pub commit_of_own : TreeState → List Entry → (ℕ → ℕ) → OwnFileMaking → ℕ → CoreCommit
commit_of_own first history cuts own number = record {
  number = number;
  look = look_of_own first history cuts own;
  counts = every_entry;
  late = max (length history) own.stamp;
  mark = λ _ _. 0;
  members = own.node ∷ [];
  holds = λ node. node == own.node;
  last = λ _. own.value.last;
  makes = record {
    lifted = λ node. if node == own.node then max own.value.cut.0 own.stamp else 0;
    found = record {
      named = λ _. is_named_below first history cuts own.node || are_none (namings_past first history cuts own.node);
      directory = false;
    };
    gets = λ _. false;
    loses = λ _. false;
  };
}

-- A core made something for its fsync of a file that has an inode, and the run tells a commit of that, whatever stamps the directories had.
pub record ToldOwn (run : TableRun) (making : CoreMaking) (told : Commitment) : Type 0 where
  pub one : OwnMade run making
  pub tells : (first : TreeState) (history : List Entry) (cuts : ℕ → ℕ) → TellsCommit run (commit_of_own first history cuts one.own told.number) told

-- A run tells a commit of what a core made: by its notes, or by its own file.
pub data TellsMaking (run : TableRun) (making : CoreMaking) (told : Commitment) : Type 0 where
  told_notes : ToldMade run making told → TellsMaking run making told
  told_file : ToldOwn run making told → TellsMaking run making told

-- So it does in each run that goes on from there, whatever others call and tell.
abbrev pub TellingsGoOn : Type 0
TellingsGoOn = (run : TableRun) (more : List (Event Fact)) (making : CoreMaking) (told : Commitment) → IsTableRun (run_on run more)
    → TellsMaking run making told → TellsMaking (run_on run more) making told

-- Such a commit of a file follows from its look, in each legal history in which its node is a file.
abbrev pub OwnsFollowLooks : Type 0
OwnsFollowLooks = (first : TreeState) (history : List Entry) (cuts : ℕ → ℕ) (own : OwnFileMaking) (number : ℕ) → IsSoundTree first → IsLegal first history
    → is_directory (tree_after first history) own.node ≡ false → IsByItsLook (commit_of_own first history cuts own number)
