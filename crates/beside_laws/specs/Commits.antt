-- Commits as their cores made them.
use Rattle.std.specs.Prelude.{◌≡◌, ◌⊎◌, ◌↔◌, ℕ, ◌<◌, ◌≤◌, Bool, true, false, List, if◌then◌else◌}
use Rattle.tree_laws.specs.declared.history.Entry.{Entry}
use Rattle.tree_laws.specs.Tree.{TreeState}
use Rattle.tree_laws.specs.Changes.{RowChange}
use Rattle.cut_laws.specs.Rules.{IsOneOf, IsChange, births_of}
use Rattle.cut_laws.specs.Closure.{Counts, Flush, HasLiveNode}
use Rattle.look_laws.specs.Look.{Look, Noted, Gathers, Touches}
use Rattle.look_laws.specs.Fit.{IsNoted, IsTrue}
use Rattle.look_laws.specs.Beside.{Observation, Lifting, IsLiftingOf}

-- A commit as its core made it: its number; what it went by, and of which entries, all of those below a stamp; the marks of the log parts that it
-- noted, by the stamp of an entry, which tells its core's part, and by directory; its members; the nodes that it holds, and of each the number of
-- the last commit before it; and what it made of them.
pub record CoreCommit : Type 0 where
  pub number : ℕ
  pub look : Look
  pub counts : Counts
  pub late : ℕ
  pub mark : ℕ → ℕ → ℕ
  pub members : List ℕ
  pub holds : ℕ → Bool
  pub last : ℕ → ℕ
  pub makes : Lifting

-- the fsync that it is of
abbrev pub commit_fsync : CoreCommit → Flush
commit_fsync commit = commit.look.flush

-- its observation of a history
abbrev pub observed_by : TreeState → List Entry → CoreCommit → Observation
observed_by first history commit =
    record { first = first; history = history; counts = commit.counts; late = commit.late; look = commit.look }

-- whether a node that it holds has an inode once it is durable: one that gets it has, one that loses it has none, any other as before
abbrev pub has_inode_behind : CoreCommit → ℕ → Bool
has_inode_behind commit node =
    if commit.makes.gets node then true else (if commit.makes.loses node then false else commit.look.inodes node)

-- A commit is made by its look: its members are what the look gathers, it holds what the look touches, its stamps and inodes are what the look
-- makes, and of a node that it doesn't hold the look has the stamp 0.
pub record IsByItsLook (commit : CoreCommit) : Type 0 where
  pub members : (node : ℕ) → IsOneOf commit.members node ↔ Gathers commit.look node
  pub holds : (node : ℕ) → (commit.holds node ≡ true) ↔ Touches commit.look node
  pub makes : IsLiftingOf commit.look commit.makes
  pub blank : (node : ℕ) → commit.holds node ≡ false → commit.look.cut node ≡ 0

-- a change is one of a directory that a commit holds, or the child of its row is a node that it holds
abbrev pub IsOfHeld : CoreCommit → RowChange → Type 0
IsOfHeld commit change = (commit.holds change.directory ≡ true) ⊎ (commit.holds change.child ≡ true)

-- What a commit noted is what the log parts had of the nodes that it holds, as it held them: of the entries that count the changes that the parts'
-- marks had not cut off, each that is one of a directory which it holds or that names a node which it holds, and others or none; all entries
-- below a stamp count, which is not below its fsync's, and its node was alive; of each node that it touches where it was made; and no part was
-- marked past the cut of a directory that it holds.
pub record HasNotes (first : TreeState) (history : List Entry) (commit : CoreCommit) : Type 0 where
  pub early : (stamp : ℕ) → stamp < commit.late → commit.counts stamp ≡ true
  pub stamp : (commit_fsync commit).stamp ≤ commit.late
  pub live : HasLiveNode first history (commit_fsync commit)
  pub truths : (noted : Noted) → IsOneOf commit.look.noted noted → IsTrue first history commit.counts noted
  pub unmarked : (noted : Noted) → IsOneOf commit.look.noted noted → commit.mark noted.change.stamp noted.change.directory ≤ noted.change.stamp
  pub noted : (change : RowChange) → IsChange first history change → IsOfHeld commit change → commit.counts change.stamp ≡ true
      → commit.mark change.stamp change.directory ≤ change.stamp → IsNoted commit.look change
  pub born : (node directory : ℕ) → Touches commit.look node
      → IsOneOf commit.look.born (record { node = node; directory = directory }) ↔
      ((stamp : ℕ) × IsOneOf (births_of first history) (record { stamp = stamp; directory = directory; node = node }))
  pub own_marks : (stamp directory : ℕ) → commit.holds directory ≡ true → commit.mark stamp directory ≤ commit.look.cut directory

-- Two commits hold a node in common.
pub record Share (commit other : CoreCommit) : Type 0 where
  pub node : ℕ
  pub one : commit.holds node ≡ true
  pub two : other.holds node ≡ true

-- A commit raised the cut of a directory, which it holds, over a stamp.
pub record RaisedOver (first : TreeState) (history : List Entry) (commit : CoreCommit) (directory stamp : ℕ) : Type 0 where
  pub made : IsByItsLook commit
  pub notes : HasNotes first history commit
  pub held : commit.holds directory ≡ true
  pub from : commit.look.cut directory ≤ stamp
  pub over : stamp < commit.makes.lifted directory
