-- The shape that was worked out by hand is the shape: what the tree's maps give is put in, and the rest computes.
use Rattle.std.proofs.Common.{◌≡◌, false, ℕ, zero, suc, ◌+◌, Bool, List, [], ◌∷◌, ◌++◌, map, fold, filter, count_by, Option, None, ap, ◌∙◌}
use Rattle.std.specs.Prelude.{not, true, length, filter_map, ◌==◌, ◌&&◌, if◌then◌else◌}
use Rattle.std.specs.List.{flat_map, position}
use Rattle.std.specs.Option.{option_map_or}
use Rattle.std.specs.Ordering.{nat_cmp}
use Rattle.std.specs.FinMap.{len, get, entries, len-entries, get-entries, entries-from_sorted}
use Rattle.std.specs.FinMap.Entries.{find as entry}
use Rattle.sfs_base.specs.declared.numbers.Kind.TheVariants.{File}
use Rattle.tree_laws.specs.Order.{Key, key_cmp}
use Rattle.tree_laws.specs.Tree.{Node, is_directory, is_directory_kind, names_it, name_row, names_of}
use Rattle.tree_laws.specs.Shape.{Met, Line, with_file, line_of, met_from}
use Rattle.tree_laws.specs.ShapeWorked.{WORKED_ROWS, WORKED_NODES, THREE_NAMES, THREE_NAMES_SHAPE}
use Rattle.tree_laws.proofs.Names.{entries-names_where}
use Rattle.tree_laws.specs.Laws.{ShapeIsAsWorked}

-- what the maps of a tree give
record Given : Type 0 where
  node : ℕ → Option Node
  names : ℕ → List (List ℕ × ℕ)
  rows : List (Key × ℕ)
  steps : ℕ

abbrev is_directory_by : (ℕ → Option Node) → ℕ → Bool
is_directory_by node n = option_map_or (λ x. is_directory_kind x.kind) (node n) false

abbrev met_by : ℕ → Given → List (List ℕ) → ℕ → List Met
met_by zero given path n = record { path = path; node = n } ∷ []
met_by (suc steps) given path n =
    record { path = path; node = n }
    ∷ flat_map (λ row. met_by steps given (path ++ row.0 ∷ []) row.1) (if is_directory_by given.node n then given.names n else [])

abbrev links_by : Given → ℕ → ℕ
links_by given n =
    if is_directory_by given.node n
    then 2 + count_by (λ row. row.0.0 == n && is_directory_by given.node row.1) given.rows
    else count_by (names_it n) given.rows

abbrev line_by : Given → List ℕ → Met → Line
line_by given files m = record {
  path = m.path;
  kind = option_map_or (λ x. x.kind) (given.node m.node) File;
  links = links_by given m.node;
  group = if is_directory_by given.node m.node then None else position (λ file. file == m.node) files;
  bytes = option_map_or (λ x. x.bytes) (given.node m.node) [];
}

abbrev shape_by : Given → List Line
shape_by given =
    let met = met_by given.steps given [] 0 in
    map (λ m. line_by given (fold with_file [] (filter (λ n. not (is_directory_by given.node n)) (map (λ x. x.node) met))) m) met

abbrev given_by : (ℕ → Option Node) → (ℕ → List (List ℕ × ℕ)) → List (Key × ℕ) → ℕ → Given
given_by node names rows steps = record { node = node; names = names; rows = rows; steps = steps }

-- what the maps of this tree give
nodes_are : (n : ℕ) → get THREE_NAMES.nodes n ≡ entry nat_cmp n WORKED_NODES
nodes_are n = get-entries THREE_NAMES.nodes n ∙ ap (entry nat_cmp n) (entries-from_sorted nat_cmp WORKED_NODES _)

rows_are : entries THREE_NAMES.rows ≡ WORKED_ROWS
rows_are = entries-from_sorted key_cmp WORKED_ROWS _

abbrev names_in : ℕ → List (Key × ℕ) → List (List ℕ × ℕ)
names_in n rows = filter_map (name_row n (λ _. true)) rows

names_are : (n : ℕ) → entries (names_of n THREE_NAMES.rows) ≡ names_in n WORKED_ROWS
names_are n = entries-names_where n (λ _. true) THREE_NAMES.rows ∙ ap (names_in n) rows_are

abbrev shape_within : ℕ → List Line
shape_within steps =
    let met = met_from steps THREE_NAMES [] 0 in
    map (line_of THREE_NAMES (fold with_file [] (filter (λ n. not (is_directory THREE_NAMES n)) (map (λ m. m.node) met)))) met

five_rows : len THREE_NAMES.rows ≡ 5
five_rows = len-entries THREE_NAMES.rows ∙ ap length rows_are

maps_put_in : shape_within 5 ≡ THREE_NAMES_SHAPE
maps_put_in = λ i. shape_by (given_by (λ n. nodes_are n i) (λ n. names_are n i) (rows_are i) 5)

pub worked : ShapeIsAsWorked
worked = ap shape_within five_rows ∙ maps_put_in
