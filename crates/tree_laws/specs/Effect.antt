-- What a call does to the tree.
use Rattle.std.specs.Prelude.{ℕ, ◌+◌, List, [], Option, Some, None, slice_set}
use Rattle.std.specs.Ordering.{nat_cmp}
use Rattle.std.specs.FinMap.{FinMap, get, insert, remove}
use Rattle.sfs_base.specs.declared.numbers.Kind.{Kind}
use Rattle.sfs_base.specs.Files.{resized, written}
use Rattle.tree_laws.specs.Order.{key_cmp}
use Rattle.tree_laws.specs.Tree.{TreeState, Node, made_by, next_number}

-- how a file's bytes change: bytes are put at a place, or the file gets a size
pub data Edit : Type 0 where
  Puts : (at : ℕ) (bytes : List ℕ) → Edit
  Resizes : (size : ℕ) → Edit

-- a file's bytes after an edit
abbrev pub edited : Edit → List ℕ → List ℕ
edited (Puts at from) bytes = written at from bytes
edited (Resizes size) bytes = resized size bytes

-- what becomes of the tree: nothing; a row comes; a row goes; a row's child moves to another row, in place of what stands there;
-- a file's bytes change
pub data Effect : Type 0 where
  Stays : Effect
  Adds : (directory : ℕ) (name : List ℕ) (child : ℕ) → Effect
  Removes : (directory : ℕ) (name : List ℕ) (child : ℕ) → Effect
  Moves : (directory : ℕ) (name : List ℕ) (to_directory : ℕ) (to_name : List ℕ) (child : ℕ) → Effect
  Edits : (file : ℕ) (edit : Edit) → Effect

-- the rows after an effect
abbrev pub rows_after : FinMap key_cmp ℕ → Effect → FinMap key_cmp ℕ
rows_after rows Stays = rows
rows_after rows (Adds directory name child) = insert rows (directory, name) child
rows_after rows (Removes directory name child) = remove rows (directory, name)
rows_after rows (Moves directory name to_directory to_name child) = insert (remove rows (directory, name)) (to_directory, to_name) child
rows_after rows (Edits file edit) = rows

-- nodes in which the bytes of one are changed, where it is there
abbrev pub with_edit : FinMap nat_cmp Node → ℕ → Edit → Option Node → FinMap nat_cmp Node
with_edit nodes file edit None = nodes
with_edit nodes file edit (Some node) = insert nodes file (record node { bytes = edited edit node.bytes })

-- the nodes after an effect
abbrev pub edited_nodes : FinMap nat_cmp Node → Effect → FinMap nat_cmp Node
edited_nodes nodes (Edits file edit) = with_edit nodes file edit (get nodes file)
edited_nodes nodes _ = nodes

-- the nodes, with an empty one of this kind where one is made
abbrev pub nodes_after : FinMap nat_cmp Node → ℕ → Option Kind → FinMap nat_cmp Node
nodes_after nodes number None = nodes
nodes_after nodes number (Some kind) = insert nodes number (record { kind = kind; bytes = [] })

-- how many nodes each core has made, once this one has made one more
abbrev pub made_after : List ℕ → ℕ → ℕ → Option Kind → List ℕ
made_after made core before None = made
made_after made core before (Some kind) = slice_set made core (before + 1)

-- the tree after a core's effect, by which a node of this kind is made or none
abbrev pub tree_with : TreeState → ℕ → Effect → Option Kind → TreeState
tree_with tree core effect makes = record {
  rows = rows_after tree.rows effect;
  nodes = nodes_after (edited_nodes tree.nodes effect) (next_number tree core) makes;
  first = tree.first;
  share = tree.share;
  made = made_after tree.made core (made_by tree core) makes;
}
