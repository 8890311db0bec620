-- A shape worked out by hand: a root with one file that has two names, and a directory with a third.
use Rattle.std.specs.Prelude.{ℕ, List, [], ◌∷◌, Some, None}
use Rattle.std.specs.FinMap.{from_sorted}
use Rattle.sfs_base.specs.declared.numbers.Kind.TheVariants.{File, Directory}
use Rattle.tree_laws.specs.Order.{Key}
use Rattle.tree_laws.specs.Tree.{Node, TreeState}
use Rattle.tree_laws.specs.Shape.{Line}

-- "a" and "c" in the root name file 7, which holds a byte; "b" names directory 4, in which "d" names file 7 and "e" file 5
abbrev pub WORKED_ROWS : List (Key × ℕ)
WORKED_ROWS = ((0, 97 ∷ []), 7) ∷ ((0, 98 ∷ []), 4) ∷ ((0, 99 ∷ []), 7) ∷ ((4, 100 ∷ []), 7) ∷ ((4, 101 ∷ []), 5) ∷ []

abbrev pub WORKED_NODES : List (ℕ × Node)
WORKED_NODES =
    (0, record { kind = Directory; bytes = [] })
    ∷ (4, record { kind = Directory; bytes = [] })
    ∷ (5, record { kind = File; bytes = [] })
    ∷ (7, record { kind = File; bytes = 33 ∷ [] })
    ∷ []

abbrev pub THREE_NAMES : TreeState
THREE_NAMES = record {
  rows = from_sorted WORKED_ROWS;
  nodes = from_sorted WORKED_NODES;
  first = 8;
  share = 1;
  made = 0 ∷ [];
}

-- a line of a directory, and one of a file of a group
abbrev pub directory_line : List (List ℕ) → ℕ → Line
directory_line path links = record { path = path; kind = Directory; links = links; group = None; bytes = [] }

abbrev pub file_line : List (List ℕ) → ℕ → ℕ → List ℕ → Line
file_line path links group bytes = record { path = path; kind = File; links = links; group = Some group; bytes = bytes }

-- its lines: the file is met first at "a", then below "b" and at "c"
abbrev pub THREE_NAMES_SHAPE : List Line
THREE_NAMES_SHAPE =
    directory_line [] 3
    ∷ file_line ((97 ∷ []) ∷ []) 3 0 (33 ∷ [])
    ∷ directory_line ((98 ∷ []) ∷ []) 2
    ∷ file_line ((98 ∷ []) ∷ (100 ∷ []) ∷ []) 3 0 (33 ∷ [])
    ∷ file_line ((98 ∷ []) ∷ (101 ∷ []) ∷ []) 1 1 []
    ∷ file_line ((99 ∷ []) ∷ []) 3 0 (33 ∷ [])
    ∷ []
