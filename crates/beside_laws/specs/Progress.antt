-- How far the commits of a run have come, and what one of them knows as it reserves.
use Rattle.std.specs.Prelude.{◌≡◌, ◌≢◌, ℕ, ◌<◌, ◌≤◌, Bool, true, false, List, map, is_some}
use Rattle.std.specs.FinMap.{get}
use Rattle.tree_laws.specs.declared.history.Entry.{Entry}
use Rattle.tree_laws.specs.Tree.{TreeState}
use Rattle.tree_laws.specs.Changes.{RowChange}
use Rattle.cut_laws.specs.Cut.{Cut, cut_of, IsWithin}
use Rattle.cut_laws.specs.Rules.{IsOneOf, IsChange}
use Rattle.cut_laws.specs.Closure.{every_entry, AreFlushed}
use Rattle.beside_laws.specs.Commits.{CoreCommit, commit_fsync, has_inode_behind, IsByItsLook, HasNotes, Share, RaisedOver}

-- A run so far: the first tree and the history, the commits that are done, in the order in which they became durable, and the cut and the nodes
-- with an inode that they left.
pub record Progress : Type 0 where
  pub first : TreeState
  pub history : List Entry
  pub done : List CoreCommit
  pub cut : Cut
  pub inodes : ℕ → Bool

-- The last commit of a list that holds a node: none that holds it has a greater number.
pub record IsLastOf (done : List CoreCommit) (node : ℕ) (commit : CoreCommit) : Type 0 where
  pub among : IsOneOf done commit
  pub held : commit.holds node ≡ true
  pub latest : (other : CoreCommit) → IsOneOf done other → other.holds node ≡ true → other.number ≤ commit.number

-- What is left of a node: its stamp, and whether it has an inode.
pub record Left : Type 0 where
  pub stamp : ℕ
  pub inode : Bool

-- Commits left this of a node: where none holds it the stamp 0, and the inode that it had at first; else what the last that does made.
pub data HasLeft (done : List CoreCommit) (node : ℕ) (at_first : Bool) (left : Left) : Type 0 where
  nobody : ((other : CoreCommit) → IsOneOf done other → other.holds node ≡ false) → left.stamp ≡ 0 → left.inode ≡ at_first
      → HasLeft done node at_first left
  somebody : (commit : CoreCommit) → IsLastOf done node commit → left.stamp ≡ commit.makes.lifted node
      → left.inode ≡ has_inode_behind commit node → HasLeft done node at_first left

-- A change was passed by a commit: it has the change's directory as a member, holds its child, and has a greater stamp.
pub record HasPassed (change : RowChange) (commit : CoreCommit) : Type 0 where
  pub member : IsOneOf commit.members change.directory
  pub child : commit.holds change.child ≡ true
  pub stamp : change.stamp < (commit_fsync commit).stamp

-- What stands once some commits are done: they have raised the cut, one after another; each node has what they left of it; each change below the
-- cut was passed by one of them; no member's cut is below its commit's stamp; and no two have one number.
pub record Standing (run : Progress) : Type 0 where
  pub flushed : AreFlushed run.first run.history every_entry (map commit_fsync run.done) run.cut run.inodes
  pub left : (node : ℕ)
      → HasLeft run.done node (is_some (get run.first.nodes node)) (record { stamp = cut_of run.cut node; inode = run.inodes node })
  pub passed : (change : RowChange) → IsChange run.first run.history change → IsWithin run.cut change
      → (commit : CoreCommit) × IsOneOf run.done commit × HasPassed change commit
  pub members : (commit : CoreCommit) (node : ℕ) → IsOneOf run.done commit → IsOneOf commit.members node
      → (commit_fsync commit).stamp ≤ cut_of run.cut node
  pub numbered : (one two : CoreCommit) → IsOneOf run.done one → IsOneOf run.done two → one.number ≡ two.number → one ≡ two

-- A commit is ruled by those that are done: each that shares a node with it was stamped before its parts were noted, and all parts were trimmed
-- for it by then; and a mark that a part had over a change was reached by the cut of a commit that raised the change's directory over it, which
-- is done where it shares a node with this one.
pub record IsRuled (run : Progress) (commit : CoreCommit) : Type 0 where
  pub earlier : (other : CoreCommit) → IsOneOf run.done other → Share commit other → (commit_fsync other).stamp ≤ commit.late
  pub trimmed : (other : CoreCommit) → IsOneOf run.done other → Share commit other → (stamp directory : ℕ) → IsOneOf other.members directory
      → (commit_fsync other).stamp ≤ commit.mark stamp directory
  pub reached : (change : RowChange) → IsChange run.first run.history change → change.stamp < commit.mark change.stamp change.directory
      → (other : CoreCommit) × RaisedOver run.first run.history other change.directory change.stamp
      × (Share commit other → IsOneOf run.done other)

-- What a commit saw of the nodes that it holds is what those that are done have left.
abbrev pub SawWhatIsLeft : Progress → CoreCommit → Type 0
SawWhatIsLeft run commit =
    (node : ℕ) → commit.holds node ≡ true
    → HasLeft run.done node (is_some (get run.first.nodes node)) (record { stamp = commit.look.cut node; inode = commit.look.inodes node })

-- What is known of a commit as it reserves: it is made by its look, has its notes, is ruled, and saw what is left.
pub record KnownAtReserving (run : Progress) (commit : CoreCommit) : Type 0 where
  pub made : IsByItsLook commit
  pub notes : HasNotes run.first run.history commit
  pub ruled : IsRuled run commit
  pub fresh : SawWhatIsLeft run commit

-- A commit is later than those that are done: it has another number than they, and a greater one than those with which it shares a node.
pub record IsLater (done : List CoreCommit) (commit : CoreCommit) : Type 0 where
  pub other_number : (other : CoreCommit) → IsOneOf done other → other.number ≢ commit.number
  pub greater : (other : CoreCommit) → IsOneOf done other → Share commit other → other.number < commit.number
