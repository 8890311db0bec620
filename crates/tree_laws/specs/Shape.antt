-- The shape of a tree: what a walk from the root meets, without node numbers.
use Rattle.std.specs.Prelude.{ℕ, zero, suc, ◌==◌, List, [], ◌∷◌, ◌++◌, map, fold, filter, not, Option, None, if◌then◌else◌}
use Rattle.std.specs.List.{list_any, flat_map, position}
use Rattle.std.specs.FinMap.{entries, len}
use Rattle.sfs_base.specs.declared.numbers.Kind.{Kind}
use Rattle.tree_laws.specs.Tree.{TreeState, is_directory, kind_of, bytes_of, links_of, names_of}

-- a node where a walk meets it
pub record Met : Type 0 where
  pub path : List (List ℕ)
  pub node : ℕ

-- what a walk of so many steps down at most meets: the node, and then, names ascending, what lies below it
abbrev pub met_from : ℕ → TreeState → List (List ℕ) → ℕ → List Met
met_from zero tree path node = record { path = path; node = node } ∷ []
met_from (suc steps) tree path node =
    record { path = path; node = node }
    ∷ flat_map (λ row. met_from steps tree (path ++ row.0 ∷ []) row.1) (if is_directory tree node then entries (names_of node tree.rows) else [])

-- what a walk from the root meets, depth first
abbrev pub met : TreeState → List Met
met tree = met_from (len tree.rows) tree [] 0

-- the files that are met, each once, in order of first mention
abbrev pub with_file : List ℕ → ℕ → List ℕ
with_file files file = if list_any (λ before. before == file) files then files else files ++ file ∷ []

abbrev pub files_met : TreeState → List ℕ
files_met tree = fold with_file [] (filter (λ node. not (is_directory tree node)) (map (λ m. m.node) (met tree)))

-- one line of a shape; a group is the place of a file in order of first mention, and a directory has none
pub record Line : Type 0 where
  pub path : List (List ℕ)
  pub kind : Kind
  pub links : ℕ
  pub group : Option ℕ
  pub bytes : List ℕ

-- the line of a node that was met
abbrev pub line_of : TreeState → List ℕ → Met → Line
line_of tree files m = record {
  path = m.path;
  kind = kind_of tree m.node;
  links = links_of tree m.node;
  group = if is_directory tree m.node then None else position (λ file. file == m.node) files;
  bytes = bytes_of tree m.node;
}

-- the shape of a tree
abbrev pub shape_of : TreeState → List Line
shape_of tree = map (line_of tree (files_met tree)) (met tree)
