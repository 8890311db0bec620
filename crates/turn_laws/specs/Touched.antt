-- Which blocks of a file its changes touch.
use Rattle.std.specs.Prelude.{ℕ, ◌+◌, ◌-◌, ◌/◌, ◌==◌, nat_lt, nat_le, ◌&&◌, ◌||◌, not, Bool, false, List, [], ◌∷◌, length, filter}
use Rattle.tree_laws.specs.declared.history.Entry.{Entry}
use Rattle.tree_laws.specs.Changes.{FileChange, edits_of, bytes_at}
use Rattle.tree_laws.specs.Effect.{Edit, Puts, Resizes, edited}
use Rattle.tree_laws.specs.Tree.{TreeState}
use Rattle.image_laws.specs.Stands.{BLOCK_BYTES}
use Rattle.raise_laws.specs.Spans.{is_edit_between}

-- whether a block is one of those that bytes overlap, from one place to below another
abbrev pub overlaps : ℕ → ℕ → ℕ → Bool
overlaps first end n = nat_le (first / BLOCK_BYTES) n && nat_lt n ((end + (BLOCK_BYTES - 1)) / BLOCK_BYTES)

-- whether an edit of a file with these bytes touches a block: a write those that it overlaps, and a truncation to less than the size
-- those from the one of the new end on that had bytes
abbrev pub touches : Edit → List ℕ → ℕ → Bool
touches (Puts at from) bytes n = not (length from == 0) && overlaps at (at + length from) n
touches (Resizes size) bytes n = nat_lt size (length bytes) && overlaps size (length bytes) n

-- whether one of some changes of a file touches a block, where they are made one after the other on these bytes
abbrev pub is_touched_by : List FileChange → List ℕ → ℕ → Bool
is_touched_by [] bytes n = false
is_touched_by (change ∷ changes) bytes n = touches change.edit bytes n || is_touched_by changes (edited change.edit bytes) n

-- whether a change of a file, with a stamp from one to below another, touches a block
abbrev pub is_touched_between : TreeState → List Entry → ℕ → ℕ → ℕ → ℕ → Bool
is_touched_between first history file from to =
    is_touched_by (filter (is_edit_between file from to) (edits_of first history)) (bytes_at first history file from)
