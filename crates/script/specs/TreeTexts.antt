-- The text of a tree: a line for each node where a walk from the root meets it, depth first, names ascending by their bytes.
use Rattle.std.specs.Prelude.{ℕ, ◌==◌, List, [], ◌∷◌, ◌++◌, codes, flat_map, length, position, unwrap_or, if◌then◌else◌}
use Rattle.tree_laws.specs.Tree.{TreeState, is_directory, bytes_of, links_of, row_count}
use Rattle.tree_laws.specs.Shape.{Met, met, files_met}
use Rattle.script.specs.Texts.{name_text, number_text}

-- the names of a path, a `/` before each
abbrev pub names_text : List (List ℕ) → List ℕ
names_text path = flat_map (λ name. codes "/" ++ name_text name) path

-- a path: `/` for the root, and for any other its names
abbrev pub path_text : List (List ℕ) → List ℕ
path_text [] = codes "/"
path_text (name ∷ names) = names_text (name ∷ names)

-- the line of a directory: `dir LINKS ROWS PATH` and byte 10
abbrev pub directory_text : TreeState → List ℕ → ℕ → List ℕ
directory_text tree path node = codes "dir" ++ number_text (links_of tree node) ++ number_text (row_count tree node) ++ codes " " ++ path ++ 10 ∷ []

-- the line of a file: `file LINKS SIZE GROUP PATH` and byte 10
abbrev pub file_text : TreeState → ℕ → List ℕ → ℕ → List ℕ
file_text tree group path node =
    codes "file" ++ number_text (links_of tree node) ++ number_text (length (bytes_of tree node)) ++ number_text group ++ codes " " ++ path ++ 10 ∷ []

-- a file's group: its place in the order of first mention, from 0 on
abbrev pub group_in : List ℕ → ℕ → ℕ
group_in files node = unwrap_or (position (λ file. file == node) files) 0

-- the line of a node where a walk meets it
abbrev pub met_text : TreeState → List ℕ → Met → List ℕ
met_text tree files m =
    if is_directory tree m.node then directory_text tree (path_text m.path) m.node else file_text tree (group_in files m.node) (path_text m.path) m.node

-- The text of a tree.
abbrev pub tree_text : TreeState → List ℕ
tree_text tree = flat_map (met_text tree (files_met tree)) (met tree)
