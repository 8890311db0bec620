-- A walk from the root of a tree that writes its text: what is written, which files were met, and what is not met yet.
use Rattle.std.specs.Prelude.{◌≡◌, ℕ, zero, suc, ◌==◌, ◌<◌, true, not, List, [], ◌∷◌, ◌++◌, codes, flat_map, filter, fold, length, map, reverse, string_bytes, if◌then◌else◌}
use Rattle.std.specs.List.{AllByRecursion, position_or_len}
use Rattle.std.specs.FinMap.{entries, len}
use Rattle.tree_laws.specs.Shape.{with_file, files_met}
use Rattle.tree_laws.specs.Sound.{Above}
use Rattle.tree_laws.specs.Tree.{TreeState, is_directory, names_of}
use Rattle.script.specs.declared.writing.tree.Unmet.{Unmet}
use Rattle.script.specs.declared.writing.tree.Walk.{Walk}
use Rattle.script.specs.Texts.{name_text}
use Rattle.script.specs.TreeTexts.{directory_text, file_text, group_in, tree_text}

-- a node that the walk is still to meet, with the names of its path as text, which the root has none of
pub record Item : Type 0 where
  pub path : List ℕ
  pub node : ℕ

-- the path that is written for it
abbrev pub shown_path : List ℕ → List ℕ
shown_path [] = codes "/"
shown_path (byte ∷ bytes) = byte ∷ bytes

-- the line of a node with this path
abbrev pub line_text : TreeState → List ℕ → Item → List ℕ
line_text tree files item =
    if is_directory tree item.node
    then directory_text tree (shown_path item.path) item.node
    else file_text tree (group_in files item.node) (shown_path item.path) item.node

-- the child of a directory with a row
abbrev pub child_item : Item → List ℕ × ℕ → Item
child_item item row = record { path = item.path ++ (codes "/" ++ name_text row.0); node = row.1 }

-- the children of a node, names ascending; a file has none
abbrev pub child_items : TreeState → Item → List Item
child_items tree item = map (child_item item) (if is_directory tree item.node then entries (names_of item.node tree.rows) else [])

-- the node, and what lies below it, so many steps down at most
abbrev pub items_from : ℕ → TreeState → Item → List Item
items_from zero tree item = item ∷ []
items_from (suc steps) tree item = item ∷ flat_map (items_from steps tree) (child_items tree item)

-- all that the walk is still to meet
abbrev pub still_to_meet : TreeState → List Item → List Item
still_to_meet tree items = flat_map (items_from (len tree.rows) tree) items

-- the files among them are met in this order, behind those that were met
abbrev pub files_then : TreeState → List ℕ → List Item → List ℕ
files_then tree files items = fold with_file files (filter (λ node. not (is_directory tree node)) (map (λ (item : Item). item.node) items))

-- a file's first place in a list
pub record IsGroupIn (files : List ℕ) (file group : ℕ) : Type 0 where
  pub place : position_or_len (λ x. x == file) files ≡ group
  pub within : group < length files

-- a node is a file, or a directory that lies below the root
abbrev pub IsBelowRoot : TreeState → Item → Type 0
IsBelowRoot tree item = is_directory tree item.node ≡ true → (above : List ℕ) × Above tree item.node above

-- Where a walk stands: what it wrote and the lines of what is still to meet are the tree's text, and the files of both are those of
-- the tree.
pub record IsWalk (tree : TreeState) (text : List ℕ) (files : List ℕ) (items : List Item) : Type 0 where
  pub written : text ++ flat_map (line_text tree (files_met tree)) (still_to_meet tree items) ≡ tree_text tree
  pub found : files_then tree files (still_to_meet tree items) ≡ files_met tree
  pub reached : AllByRecursion (IsBelowRoot tree) items

-- a node of the walk as an item
abbrev pub item_of : Unmet → Item
item_of unmet = record { path = string_bytes unmet.path; node = unmet.node.0 }

-- what a walk is still to meet, the next one first: it stands last in the list
abbrev pub items_of : List Unmet → List Item
items_of unmet = map item_of (reverse unmet)

-- a walk as its parts
abbrev pub IsWalkOf : TreeState → Walk → Type 0
IsWalkOf tree walk = IsWalk tree (string_bytes walk.text) walk.files.keys (items_of walk.unmet.items)

-- the same, where this node was taken from what it is still to meet
abbrev pub IsWalkBefore : TreeState → Unmet → Walk → Type 0
IsWalkBefore tree met walk = IsWalk tree (string_bytes walk.text) walk.files.keys (item_of met ∷ items_of walk.unmet.items)

-- how many nodes a walk is still to meet
abbrev pub left_to_meet : TreeState → Walk → ℕ
left_to_meet tree walk = length (still_to_meet tree (items_of walk.unmet.items))
