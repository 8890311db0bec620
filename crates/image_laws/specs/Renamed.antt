-- Two trees that are one but for the numbers of their nodes.
use Rattle.std.specs.Prelude.{◌≡◌, ℕ, List, Option, Some}
use Rattle.std.specs.Option.{option_and_then}
use Rattle.std.specs.FinMap.{get}
use Rattle.tree_laws.specs.Tree.{TreeState, row_of}

-- a numbering: the number of a node, where it has one
abbrev pub Numbering : Type 0
Numbering = ℕ → Option ℕ

-- a node has a number
abbrev pub HasNumber : Numbering → ℕ → Type 0
HasNumber num node = (i : ℕ) × (num node ≡ Some i)

-- These are the nodes that a walk from the root of a sound tree may meet: the root, and those that a row names.
pub data IsMet (tree : TreeState) : ℕ → Type 0 where
  root : IsMet tree 0
  named : (directory : ℕ) (name : List ℕ) (node : ℕ) → row_of tree directory name ≡ Some node → IsMet tree node

-- A tree is another with each node's number in the node's place: no two nodes have one number, the root keeps its own, and each
-- directory with a row and each child has a number.
pub record IsRenamed (num : Numbering) (tree other : TreeState) : Type 0 where
  pub root : num 0 ≡ Some 0
  pub once : (node twin number : ℕ) → num node ≡ Some number → num twin ≡ Some number → node ≡ twin
  pub holder : (directory : ℕ) (name : List ℕ) (child : ℕ) → row_of tree directory name ≡ Some child → HasNumber num directory
  pub child : (directory : ℕ) (name : List ℕ) (child : ℕ) → row_of tree directory name ≡ Some child → HasNumber num child
  -- the rows of a directory are those of its number, which name the numbers of its children
  pub rows : (directory number : ℕ) → num directory ≡ Some number → (name : List ℕ)
      → row_of other number name ≡ option_and_then num (row_of tree directory name)
  -- no other number has rows
  pub only : (number : ℕ) (name : List ℕ) (child : ℕ) → row_of other number name ≡ Some child → (directory : ℕ) × (num directory ≡ Some number)
  -- a node that a walk may meet is the node of its number
  pub nodes : (node number : ℕ) → num node ≡ Some number → IsMet tree node → get other.nodes number ≡ get tree.nodes node
