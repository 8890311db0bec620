-- What a directory's changes in a span make of its rows, and a file's of its bytes.
use Rattle.std.specs.Prelude.{◌≡◌, ℕ, ◌≤◌, ◌==◌, ◌&&◌, nat_le, nat_lt, Bool, List, filter, fold}
use Rattle.tree_laws.specs.declared.history.Entry.{Entry}
use Rattle.tree_laws.specs.Changes.{RowChange, FileChange, with_change, changes_of, rows_at, edits_of, bytes_at}
use Rattle.tree_laws.specs.Effect.{edited}
use Rattle.tree_laws.specs.History.{IsLegal}
use Rattle.tree_laws.specs.Tree.{TreeState, names_of}
use Rattle.cut_laws.specs.Cut.{Cut, cut_of, tree_at_cut}

-- whether a change is this directory's, with a stamp from one to below another
abbrev pub is_own_between : ℕ → ℕ → ℕ → RowChange → Bool
is_own_between directory from to change = (nat_le from change.stamp && nat_lt change.stamp to) && change.directory == directory

-- A directory's rows at a stamp are those at an earlier one with its changes of the span made.
abbrev pub SpansMakeRows : Type 0
SpansMakeRows = (first : TreeState) (history : List Entry) (directory from to : ℕ) → IsLegal first history → from ≤ to
    → rows_at first history directory to
    ≡ fold with_change (rows_at first history directory from) (filter (is_own_between directory from to) (changes_of first history))

-- So are a directory's rows in the tree at a cut with a later stamp of it.
abbrev pub SpansMakeCutRows : Type 0
SpansMakeCutRows =
    (first : TreeState) (history : List Entry) (cut raised : Cut) (directory : ℕ) → IsLegal first history → cut_of cut directory ≤ cut_of raised directory
    → names_of directory (tree_at_cut first history raised).rows
    ≡ fold with_change (names_of directory (tree_at_cut first history cut).rows)
    (filter (is_own_between directory (cut_of cut directory) (cut_of raised directory)) (changes_of first history))

-- whether a change is this file's, with a stamp from one to below another
abbrev pub is_edit_between : ℕ → ℕ → ℕ → FileChange → Bool
is_edit_between file from to change = (nat_le from change.stamp && nat_lt change.stamp to) && change.file == file

-- A file's bytes at a stamp are those at an earlier one with its changes of the span made.
abbrev pub SpansMakeBytes : Type 0
SpansMakeBytes = (first : TreeState) (history : List Entry) (file from to : ℕ) → IsLegal first history → from ≤ to
    → bytes_at first history file to
    ≡ fold (λ bytes change. edited change.edit bytes) (bytes_at first history file from) (filter (is_edit_between file from to) (edits_of first history))
