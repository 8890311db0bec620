-- A commit that was planned in one state and is made in another, in which all that it concerns is the same.
use Rattle.std.specs.Prelude.{◌≡◌, ◌≢◌, ◌⊎◌, ◌↔◌, ℕ, ◌<◌, true, false, List, [], Some, None}
use Rattle.tree_laws.specs.Tree.{TreeState, row_of, kind_of, bytes_of}
use Rattle.sfs_image.specs.Seen.{SeenInodes, PLACES}
use Rattle.image_laws.specs.Renamed.{Numbering}
use Rattle.image_laws.specs.Stands.{IsUnused, StandsForTree}
use Rattle.image_laws.specs.Commit.{Commit, IsCommit}

-- another state, before and after: numbers, tree and image
pub record Elsewhere : Type 0 where
  pub before : Numbering
  pub after : Numbering
  pub old : TreeState
  pub new : TreeState
  pub image : SeenInodes
  pub next : SeenInodes

-- the commit of the other state
abbrev pub commit_there : Commit → Elsewhere → Commit
commit_there commit there = record {
  before = there.before;
  after = there.after;
  concerns = commit.concerns;
  nets = commit.nets;
  takes = commit.takes;
  fresh = commit.fresh;
}

-- A commit concerns all that it changes: each directory with a net, and each child of a row that comes or goes.
pub record ConcernsItsChanges (commit : Commit) (old new : TreeState) : Type 0 where
  pub nets : (directory : ℕ) → commit.concerns directory ≡ false → commit.nets directory ≡ []
  pub comes : (directory : ℕ) (name : List ℕ) (child : ℕ) → row_of new directory name ≡ Some child → row_of old directory name ≢ Some child
      → commit.concerns child ≡ true
  pub goes : (directory : ℕ) (name : List ℕ) (child : ℕ) → row_of old directory name ≡ Some child → row_of new directory name ≢ Some child
      → commit.concerns child ≡ true

-- What a commit concerns is the same in the other state before it: numbers, inodes, rows, and the rows that name it; and what it
-- takes is free there.
pub record AgreesBefore (commit : Commit) (old : TreeState) (image : SeenInodes) (there : Elsewhere) : Type 0 where
  pub count : there.image.count ≡ image.count
  pub numbers : (node : ℕ) → commit.concerns node ≡ true → there.before node ≡ commit.before node
  pub seen : (node i : ℕ) → commit.concerns node ≡ true → commit.before node ≡ Some i → there.image.seen i ≡ image.seen i
  pub rows : (node : ℕ) → commit.concerns node ≡ true → (name : List ℕ) → row_of there.old node name ≡ row_of old node name
  pub naming : (node : ℕ) → commit.concerns node ≡ true → (directory : ℕ) (name : List ℕ)
      → (row_of there.old directory name ≡ Some node) ↔ (row_of old directory name ≡ Some node)
  pub entering : (node i : ℕ) → commit.concerns node ≡ true → commit.before node ≡ None → commit.after node ≡ Some i → IsUnused (there.image.seen i)
  pub unheld : (i place j other : ℕ) → commit.takes i place ≡ true → j < there.image.count → other < PLACES
      → (there.image.seen j).blocks other ≢ commit.fresh i place

-- an inode is that of a concerned node, before or after a commit
pub record IsTouched (commit : Commit) (i : ℕ) : Type 0 where
  pub node : ℕ
  pub concerned : commit.concerns node ≡ true
  pub number : (commit.before node ≡ Some i) ⊎ (commit.after node ≡ Some i)

-- The other state afterwards: what the commit concerns is as planned, and all else as it was there.
pub record FollowsThere (commit : Commit) (new : TreeState) (next : SeenInodes) (there : Elsewhere) : Type 0 where
  pub count : there.next.count ≡ there.image.count
  pub kinds : (node : ℕ) → kind_of there.new node ≡ kind_of new node
  pub numbers : (node : ℕ) → commit.concerns node ≡ true → there.after node ≡ commit.after node
  pub other_numbers : (node : ℕ) → commit.concerns node ≡ false → there.after node ≡ there.before node
  pub nodes : (node : ℕ) → commit.concerns node ≡ true
      → ((name : List ℕ) → row_of there.new node name ≡ row_of new node name) × (bytes_of there.new node ≡ bytes_of new node)
  pub other_nodes : (node : ℕ) → commit.concerns node ≡ false
      → ((name : List ℕ) → row_of there.new node name ≡ row_of there.old node name) × (bytes_of there.new node ≡ bytes_of there.old node)
  pub inodes : (i : ℕ) → i < there.image.count
      → (IsTouched commit i × (there.next.seen i ≡ next.seen i)) ⊎ ((IsTouched commit i → ⊥) × (there.next.seen i ≡ there.image.seen i))

-- A commit is planned in a state: the image stands for the old tree, and the commit changes it to the new one and concerns all that it
-- changes.
pub record IsPlanned (commit : Commit) (old new : TreeState) (image next : SeenInodes) : Type 0 where
  pub stands : StandsForTree commit.before old image
  pub commits : IsCommit commit old new image next
  pub concerns : ConcernsItsChanges commit old new

-- The other state suits a planned commit: its image stands for its tree, it agrees before, and follows afterwards.
pub record Suits (commit : Commit) (old new : TreeState) (image next : SeenInodes) (there : Elsewhere) : Type 0 where
  pub stands : StandsForTree there.before there.old there.image
  pub agrees : AgreesBefore commit old image there
  pub follows : FollowsThere commit new next there
