-- The tree that the inodes of an image show: its rows are the slots of the directories, its nodes the directories and the files that a row names.
use Rattle.std.specs.Prelude.{ℕ, ◌==◌, Bool, not, ◌&&◌, ◌||◌, List, [], ◌∷◌, Option, option_map, filter_map, if◌then◌else◌}
use Rattle.std.specs.List.{range_with_len, flat_map}
use Rattle.std.specs.Ordering.{nat_cmp}
use Rattle.std.specs.FinMap.{FinMap, from_entries}
use Rattle.sfs_base.specs.declared.numbers.Kind.TheVariants.{File, Directory}
use Rattle.tree_laws.specs.Order.{Key, key_cmp}
use Rattle.tree_laws.specs.Tree.{Node, TreeState, count_of}
use Rattle.sfs_image.specs.Slot.{Row, kind_byte, kind_of}
use Rattle.sfs_image.specs.Seen.{Seen, SeenInodes}

-- whether an inode is a directory
abbrev pub shows_directory : Seen → Bool
shows_directory seen = seen.kind == kind_byte Directory

-- whether it is a file
abbrev pub shows_file : Seen → Bool
shows_file seen = seen.kind == kind_byte File

-- the row of a tree that a slot of a directory is
abbrev pub tree_row : ℕ → Option Row → Option (Key × ℕ)
tree_row directory slot = option_map (λ row. ((directory, row.name), row.inode)) slot

-- the rows in an inode: those of a directory are in its slots, and others have none
abbrev pub rows_in : SeenInodes → ℕ → List (Key × ℕ)
rows_in image i = if shows_directory (image.seen i) then filter_map (tree_row i) (image.seen i).slots else []

-- the rows of an image; where a directory has one name twice, the first slot counts
abbrev pub image_rows : SeenInodes → FinMap key_cmp ℕ
image_rows image = from_entries (flat_map (rows_in image) (range_with_len 0 image.count))

-- whether an inode is a node of the tree: a directory is, and a file is where a row names it
abbrev pub is_node : SeenInodes → ℕ → Bool
is_node image i = shows_directory (image.seen i) || (shows_file (image.seen i) && not (count_of (image_rows image) i == 0))

-- the node that an inode is
abbrev pub node_shown : Seen → Node
node_shown seen = record { kind = kind_of seen.kind; bytes = seen.bytes }

-- an inode as a node, where it is chosen
abbrev pub node_in : (ℕ → Bool) → SeenInodes → ℕ → List (ℕ × Node)
node_in chosen image i = if chosen i then (i, node_shown (image.seen i)) ∷ [] else []

-- the chosen inodes of an image as nodes
abbrev pub nodes_where : (ℕ → Bool) → SeenInodes → FinMap nat_cmp Node
nodes_where chosen image = from_entries (flat_map (node_in chosen image) (range_with_len 0 image.count))

-- what a tree has beside its rows and nodes: the number of its first new node, the share of a core, and what each core has made
pub record Making : Type 0 where
  pub first : ℕ
  pub share : ℕ
  pub made : List ℕ

-- nothing made
abbrev pub NOTHING_MADE : Making
NOTHING_MADE = record { first = 0; share = 0; made = [] }

-- the tree of an image with its chosen inodes as nodes
abbrev pub tree_where : (ℕ → Bool) → SeenInodes → Making → TreeState
tree_where chosen image making = record {
  rows = image_rows image;
  nodes = nodes_where chosen image;
  first = making.first;
  share = making.share;
  made = making.made;
}

-- the tree that the inodes of an image show
abbrev pub image_tree : SeenInodes → Making → TreeState
image_tree image making = tree_where (is_node image) image making

-- whether an inode is in use
abbrev pub is_used : SeenInodes → ℕ → Bool
is_used image i = not ((image.seen i).kind == 0)

-- the same tree with orphans: files that no row names
abbrev pub tree_with_orphans : SeenInodes → Making → TreeState
tree_with_orphans image making = tree_where (is_used image) image making
