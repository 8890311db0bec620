-- What an fsync has gathered, and which nodes it makes members and touches.
use Rattle.std.specs.Prelude.{◌≡◌, ℕ, ◌<◌, ◌≤◌, Bool, true, false, List, Some}
use Rattle.tree_laws.specs.Changes.{RowChange}
use Rattle.cut_laws.specs.Rules.{IsOneOf}
use Rattle.cut_laws.specs.Closure.{Flush}

-- A change that was gathered, and the directories above its own that were recorded with it.
pub record Noted : Type 0 where
  pub change : RowChange
  pub above : List ℕ

-- A node that was made, and the directory in which it was made.
pub record Born : Type 0 where
  pub node : ℕ
  pub directory : ℕ

-- What an fsync goes by: the stamp in the cut of each node that it looks at, and 0 for any other; which of these have an inode; where
-- they were made; and the changes that it has gathered.
pub record Look : Type 0 where
  pub flush : Flush
  pub cut : ℕ → ℕ
  pub inodes : ℕ → Bool
  pub born : List Born
  pub noted : List Noted

-- A gathered change in the span of its directory: from its cut to below the fsync's stamp.
pub record InSight (look : Look) (noted : Noted) : Type 0 where
  pub is_noted : IsOneOf look.noted noted
  pub from : look.cut noted.change.directory ≤ noted.change.stamp
  pub below : noted.change.stamp < look.flush.stamp

-- A gathered change names a node and does not lie below its directory's stamp in a cut.
pub record SeesNaming (look : Look) (cut : ℕ → ℕ) (node : ℕ) : Type 0 where
  pub noted : Noted
  pub is_noted : IsOneOf look.noted noted
  pub child : noted.change.child ≡ node
  pub unflushed : cut noted.change.directory ≤ noted.change.stamp

-- The members by what was gathered: the least set of nodes that has the fsync's own and, with each member,
pub data Gathers (look : Look) : ℕ → Type 0 where
  itself : Gathers look look.flush.node
  -- for a change in its span by a rename between two directories, the other one
  other_side : (noted : Noted) (other : ℕ) → Gathers look noted.change.directory → InSight look noted → noted.change.other ≡ Some other → Gathers look other
  -- a directory that a change in its span ends
  ended : (noted : Noted) → Gathers look noted.change.directory → InSight look noted → noted.change.ends ≡ true → Gathers look noted.change.child
  -- the directories that were recorded with a change in its span
  ancestor : (noted : Noted) (node : ℕ) → Gathers look noted.change.directory → InSight look noted → IsOneOf noted.above node → Gathers look node
  -- where it was made, has no inode, and has a naming that is not flushed, the directory in which it was made
  birth_place : (born : Born) → Gathers look born.node → IsOneOf look.born born → look.inodes born.node ≡ false → SeesNaming look look.cut born.node
      → Gathers look born.directory

-- The nodes that the fsync touches by what was gathered: the members, and the children of the changes in their spans.
pub data Touches (look : Look) : ℕ → Type 0 where
  member : (node : ℕ) → Gathers look node → Touches look node
  named : (noted : Noted) → Gathers look noted.change.directory → InSight look noted → Touches look noted.change.child
