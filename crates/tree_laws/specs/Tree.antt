-- The tree of one thread: rows, nodes, and how many nodes each core has made.
use Rattle.std.specs.Prelude.{◌≡◌, ℕ, zero, suc, ◌+◌, ◌*◌, Bool, true, false, not, ◌||◌, ◌&&◌, List, [], ◌∷◌, Option, Some, None, option_map, slice_index, ◌==◌, count_by, filter_map, refl, if◌then◌else◌}
use Rattle.std.specs.List.{find, list_any}
use Rattle.std.specs.Option.{option_map_or}
use Rattle.std.specs.Coded.{Coded, code_by, coded×, coded_ℕ, coded_bool, coded_list}
use Rattle.std.specs.Ordering.{nat_cmp}
use Rattle.std.specs.FinMap.{FinMap, code, get, entries, from_sorted, len}
use Rattle.sfs_base.specs.declared.numbers.Kind.{Kind}
use Rattle.sfs_base.specs.declared.numbers.Kind.TheVariants.{File, Directory}
use Rattle.sfs_base.specs.Name.{bucket}
use Rattle.tree_laws.specs.Order.{name_cmp, Key, key_cmp}

-- whether a kind is that of directories
abbrev pub is_directory_kind : Kind → Bool
is_directory_kind Directory = true
is_directory_kind File = false

-- 1 where it is so, and else 0
abbrev pub one_if : Bool → ℕ
one_if holds = if holds then 1 else 0

-- directory or not, as a kind
abbrev pub kind_if : Bool → Kind
kind_if true = Directory
kind_if false = File

pub kind_again : (kind : Kind) → kind_if (is_directory_kind kind) ≡ kind
kind_again Directory = refl
kind_again File = refl

-- a node: what it is and, of a file, its bytes
pub record Node : Type 0 where
  pub kind : Kind
  pub bytes : List ℕ

pub node_again : (node : Node) → ◌≡◌ {A = Node} (record { kind = kind_if (is_directory_kind node.kind); bytes = node.bytes }) node
node_again node = λ i. record { kind = kind_again node.kind i; bytes = node.bytes }

-- how a node is stored
abbrev pub node_code : Coded Node
node_code =
    code_by (Bool × List ℕ) (coded× coded_bool (coded_list coded_ℕ)) (λ node. (is_directory_kind node.kind, node.bytes))
    (λ p. record { kind = kind_if p.0; bytes = p.1 }) node_again

-- A tree: rows from directory and name to child, nodes by their numbers, the number of the first node that
-- is made, how many nodes a core may make, and how many each core has made.
pub record TreeState : Type 0 where
  pub rows : FinMap key_cmp ℕ
  pub nodes : FinMap nat_cmp Node
  pub first : ℕ
  pub share : ℕ
  pub made : List ℕ

-- how a tree is stored
abbrev pub tree_code : Coded TreeState
tree_code =
    code_by (FinMap key_cmp ℕ × (FinMap nat_cmp Node × (ℕ × (ℕ × List ℕ))))
    (coded× (code (coded× coded_ℕ (coded_list coded_ℕ)) coded_ℕ) (coded× (code coded_ℕ node_code) (coded× coded_ℕ (coded× coded_ℕ (coded_list coded_ℕ)))))
    (λ t. (t.rows, (t.nodes, (t.first, (t.share, t.made))))) (λ p. record {
      rows = p.0;
      nodes = p.1.0;
      first = p.1.1.0;
      share = p.1.1.1.0;
      made = p.1.1.1.1;
    }) (λ _. refl)

-- whether a row names this node
abbrev pub names_it : ℕ → Key × ℕ → Bool
names_it node row = row.1 == node

-- how many rows name a node
abbrev pub count_of : FinMap key_cmp ℕ → ℕ → ℕ
count_of rows node = count_by (names_it node) (entries rows)

-- the child that a row of this directory with this name has
abbrev pub row_of : TreeState → ℕ → List ℕ → Option ℕ
row_of tree directory name = get tree.rows (directory, name)

-- a node is alive where it is the root or a row names it
abbrev pub is_alive : TreeState → ℕ → Bool
is_alive tree node = node == 0 || not (count_of tree.rows node == 0)

-- whether the node is a directory of the tree
abbrev pub is_directory : TreeState → ℕ → Bool
is_directory tree node = option_map_or (λ n. is_directory_kind n.kind) (get tree.nodes node) false

-- a row's name and child, where it stands in this directory and its name passes
abbrev pub name_row : ℕ → (List ℕ → Bool) → Key × ℕ → Option (List ℕ × ℕ)
name_row directory test row = if row.0.0 == directory && test row.0.1 then Some (row.0.1, row.1) else None

-- the rows of a directory whose names pass a test, from name to child
abbrev pub names_where : ℕ → (List ℕ → Bool) → FinMap key_cmp ℕ → FinMap name_cmp ℕ
names_where directory test rows = from_sorted (filter_map (name_row directory test) (entries rows))

-- the rows of a directory
abbrev pub names_of : ℕ → FinMap key_cmp ℕ → FinMap name_cmp ℕ
names_of directory = names_where directory (λ _. true)

-- the rows of a directory that lie in one of its eight buckets
abbrev pub bucket_rows : ℕ → ℕ → FinMap key_cmp ℕ → FinMap name_cmp ℕ
bucket_rows directory number = names_where directory (λ name. bucket name == number)

-- how many rows a bucket of a directory holds at most
abbrev pub BUCKET_ROWS : ℕ
BUCKET_ROWS = 4096

-- how many nodes a core has made
abbrev pub made_by : TreeState → ℕ → ℕ
made_by tree core = slice_index tree.made core

-- the number of the node that a core makes next
abbrev pub next_number : TreeState → ℕ → ℕ
next_number tree core = tree.first + core * tree.share + made_by tree core

-- the kind of a node of the tree, and File for any other
abbrev pub kind_of : TreeState → ℕ → Kind
kind_of tree node = option_map_or (λ n. n.kind) (get tree.nodes node) File

-- the bytes of a node of the tree, and none for any other
abbrev pub bytes_of : TreeState → ℕ → List ℕ
bytes_of tree node = option_map_or (λ n. n.bytes) (get tree.nodes node) []

-- how many rows a directory has
abbrev pub row_count : TreeState → ℕ → ℕ
row_count tree directory = len (names_of directory tree.rows)

-- whether a row stands in this directory and names a directory
abbrev pub holds_directory : TreeState → ℕ → Key × ℕ → Bool
holds_directory tree directory row = row.0.0 == directory && is_directory tree row.1

-- a node's link count: of a directory 2 and the number of rows in it that name directories, of a file the number of rows that name it
abbrev pub links_of : TreeState → ℕ → ℕ
links_of tree node =
    if is_directory tree node then 2 + count_by (holds_directory tree node) (entries tree.rows) else count_of tree.rows node

-- a directory's holder: the directory of the row that names it, where there is one
abbrev pub holder_of : TreeState → ℕ → Option ℕ
holder_of tree node = option_map (λ row. row.0.0) (find (names_it node) (entries tree.rows))

-- a directory and those that a walk from it meets, or none
abbrev pub and_above : (ℕ → List ℕ) → Option ℕ → List ℕ
and_above above None = []
and_above above (Some holder) = holder ∷ above holder

-- the directories that a walk up from a node meets, from its holder on, so many of them at most
abbrev pub walk_up : ℕ → TreeState → ℕ → List ℕ
walk_up zero tree node = []
walk_up (suc steps) tree node = and_above (walk_up steps tree) (holder_of tree node)

-- a node lies below a directory where walking up from the node through holders meets that directory
abbrev pub lies_below : TreeState → ℕ → ℕ → Bool
lies_below tree node directory = list_any (λ above. above == directory) (walk_up (len tree.rows) tree node)
