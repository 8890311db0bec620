-- The rows and nodes of a tree as lists.
use Rattle.std.specs.Prelude.{◌≡◌, ℕ, ◌*◌, ◌<◌, ◌≤◌, ◌==◌, ◌&&◌, not, true, List, [], ◌∷◌, length, map, ◌++◌, take, slice_index, IsSome, if◌then◌else◌}
use Rattle.std.specs.FinMap.{get, from_entries}
use Rattle.std.specs.List.{range_with_len, flat_map}
use Rattle.sfs_base.specs.Lists.{Roomy}
use Rattle.sfs_image.specs.Slot.{Row}
use Rattle.tree_laws.specs.Order.{Key}
use Rattle.sfs_base.specs.declared.numbers.Kind.TheVariants.{File, Directory}
use Rattle.sfs_image.specs.Inode.{Inode}
use Rattle.sfs_image.specs.Seen.{FILE_BLOCKS}
use Rattle.sfs_image.specs.Super.{Layout}
use Rattle.tree_laws.specs.Build.{with_node, root_alone}
use Rattle.tree_laws.specs.Tree.{TreeState, Node, is_directory}
use Rattle.disk_tree.specs.Contents.{bytes_of_inode}
use Rattle.disk_tree.specs.Inodes.{inode_at}
use Rattle.disk_tree.specs.Reached.{row_at}
use Rattle.disk_tree.specs.Rows.{rows_of_inode, rows_in_bucket, HaveOwnNames}

-- the row of a directory, as a tree has it
abbrev pub entry_of_row : ℕ → Row → Key × ℕ
entry_of_row directory row = ((directory, row.name), row.inode)

-- the rows of the inode of a number
abbrev pub entries_at : List (Roomy Row) → ℕ → List (Key × ℕ)
entries_at rows i = map (entry_of_row i) (rows_of_inode rows i)

-- the rows of the first n inodes
unfoldable pub row_entries : List (Roomy Row) → ℕ → List (Key × ℕ)
row_entries rows n = flat_map (entries_at rows) (range_with_len 0 n)

-- the rows of the inodes below a number, and the first k of its own
abbrev pub entries_to : List (Roomy Row) → ℕ → ℕ → List (Key × ℕ)
entries_to rows i k = row_entries rows i ++ map (entry_of_row i) (take k (rows_of_inode rows i))

-- Rows may be put into a tree that has none: each stands in a directory of it and names a node of it, no two of one directory have one
-- name, and no bucket gets more rows than it may have.
pub record MayPut (tree : TreeState) (rows : List (Roomy Row)) : Type 0 where
  pub directories : (i k : ℕ) → k < length (rows_of_inode rows i) → is_directory tree i ≡ true
  pub children : (i k : ℕ) → k < length (rows_of_inode rows i) → IsSome (get tree.nodes (row_at (rows_of_inode rows i) k).inode)
  pub own : (i : ℕ) → HaveOwnNames (rows_of_inode rows i) (length (rows_of_inode rows i))
  pub room : (i number : ℕ) → rows_in_bucket (rows_of_inode rows i) number ≤ 4096

-- a tree with these entries as its rows
abbrev pub with_entries : TreeState → List (Key × ℕ) → TreeState
with_entries tree es = record tree { rows = from_entries es }

-- the node that an inode is, by the number of rows that name it and its bytes: a directory is one, and a file that a row names
abbrev pub node_by_inode : Inode → ℕ → List ℕ → ℕ → List (ℕ × Node)
node_by_inode inode named bytes i =
    if inode.kind == 2 then (i, record { kind = Directory; bytes = [] }) ∷ []
    else if inode.kind == 1 && not (named == 0) then (i, record { kind = File; bytes = take inode.size bytes }) ∷ [] else []

-- the same, of the inode of a number
abbrev pub node_at : List Inode → List ℕ → List (Roomy ℕ) → ℕ → List (ℕ × Node)
node_at inodes named contents i = node_by_inode (inode_at inodes i) (slice_index named i) (bytes_of_inode contents i) i

-- the nodes of the first n inodes
unfoldable pub node_entries : List Inode → List ℕ → List (Roomy ℕ) → ℕ → List (ℕ × Node)
node_entries inodes named contents n = flat_map (node_at inodes named contents) (range_with_len 0 n)

-- a tree with these entries as its nodes
abbrev pub with_nodes : TreeState → List (ℕ × Node) → TreeState
with_nodes tree es = record tree { nodes = from_entries es }

-- a tree with one of an inode's nodes more
abbrev pub with_node_of : TreeState → Inode → ℕ → List ℕ → ℕ → TreeState
with_node_of tree inode named bytes i =
    if inode.kind == 2 then with_node tree i Directory []
    else if inode.kind == 1 && not (named == 0) then with_node tree i File (take inode.size bytes) else tree

-- the tree of a disk's layout with these entries as its nodes and rows
abbrev pub tree_of_entries : Layout → List (ℕ × Node) → List (Key × ℕ) → TreeState
tree_of_entries layout nodes rows = with_entries (with_nodes (root_alone layout.inodes 0 layout.cores) nodes) rows

-- A tree may be built of inodes, of the numbers of rows that name them, of their bytes, and of their rows: there are as many of each,
-- the root is a directory, each file is as large as its bytes at most, and the rows may be put into the tree of the nodes.
pub record MayBuild (layout : Layout) (inodes : List Inode) (named : List ℕ) (contents : List (Roomy ℕ)) (rows : List (Roomy Row)) : Type 0 where
  pub inode_count : length inodes ≡ layout.inodes
  pub named_count : length named ≡ length inodes
  pub content_count : length contents ≡ length inodes
  pub row_count : length rows ≡ length inodes
  pub root : (inode_at inodes 0).kind ≡ 2
  pub sizes : (i : ℕ) → i < length inodes → (inode_at inodes i).size ≤ 4096 * FILE_BLOCKS
  pub bytes : (i : ℕ) → i < length inodes → (inode_at inodes i).size ≤ length (bytes_of_inode contents i)
  pub rows_may : MayPut (tree_of_entries layout (node_entries inodes named contents (length inodes)) []) rows
