-- Cuts, and the tree at a cut.
use Rattle.std.specs.Prelude.{ℕ, ◌<◌, Bool, List, nat_lt, ◌&&◌, filter, fold, map, if◌then◌else◌}
use Rattle.std.specs.Option.{unwrap_or}
use Rattle.std.specs.Ordering.{nat_cmp}
use Rattle.std.specs.FinMap.{FinMap, get, insert, remove, entries, from_sorted}
use Rattle.tree_laws.specs.declared.history.Entry.{Entry}
use Rattle.tree_laws.specs.Order.{key_cmp}
use Rattle.tree_laws.specs.Tree.{TreeState, Node}
use Rattle.tree_laws.specs.Changes.{RowChange, changes_of, bytes_at}
use Rattle.tree_laws.specs.History.{tree_after}

-- a cut: a stamp for each node, from which on its own changes are not yet flushed
abbrev pub Cut : Type 0
Cut = FinMap nat_cmp ℕ

-- a node's stamp in a cut; a node that is not in it has 0
abbrev pub cut_of : Cut → ℕ → ℕ
cut_of cut node = unwrap_or (get cut node) 0

-- whether a change lies below the cut of its directory
abbrev pub is_within : Cut → RowChange → Bool
is_within cut change = nat_lt change.stamp (cut_of cut change.directory)

-- A change lies below the cut of its directory.
abbrev pub IsWithin : Cut → RowChange → Type 0
IsWithin cut change = change.stamp < cut_of cut change.directory

-- rows of all directories with a change made
abbrev pub with_own : FinMap key_cmp ℕ → RowChange → FinMap key_cmp ℕ
with_own rows change =
    if change.places then insert rows (change.directory, change.name) change.child else remove rows (change.directory, change.name)

-- the rows at a cut: those of the first tree, with each change made that lies below the cut of its directory
abbrev pub rows_at_cut : TreeState → List Entry → Cut → FinMap key_cmp ℕ
rows_at_cut first history cut = fold with_own first.rows (filter (is_within cut) (changes_of first history))

-- whether a change is of an entry that counts, and lies below the cut of its directory
abbrev pub is_counted_within : (ℕ → Bool) → Cut → RowChange → Bool
is_counted_within counts cut change = counts change.stamp && is_within cut change

-- the rows at a cut where only some entries count, which their stamps tell
abbrev pub counted_rows_at_cut : TreeState → List Entry → (ℕ → Bool) → Cut → FinMap key_cmp ℕ
counted_rows_at_cut first history counts cut = fold with_own first.rows (filter (is_counted_within counts cut) (changes_of first history))

-- a node with the bytes that it has at a cut
abbrev pub node_at_cut : TreeState → List Entry → Cut → ℕ × Node → ℕ × Node
node_at_cut first history cut entry = (entry.0, record entry.1 { bytes = bytes_at first history entry.0 (cut_of cut entry.0) })

-- the nodes at a cut: those of the first tree and those made in the history, each with its bytes at the cut
abbrev pub nodes_at_cut : TreeState → List Entry → Cut → FinMap nat_cmp Node
nodes_at_cut first history cut = from_sorted (map (node_at_cut first history cut) (entries (tree_after first history).nodes))

-- the tree at a cut
abbrev pub tree_at_cut : TreeState → List Entry → Cut → TreeState
tree_at_cut first history cut = record {
  rows = rows_at_cut first history cut;
  nodes = nodes_at_cut first history cut;
  first = first.first;
  share = first.share;
  made = (tree_after first history).made;
}
