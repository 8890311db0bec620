-- Sets of nodes.
use Rattle.std.specs.Prelude.{ℕ, Bool, false, ◌==◌, slice_index_or, if◌then◌else◌}
use Rattle.flush_core.specs.declared.sets.NodeSet.{NodeSet}

-- whether a node is in a set
abbrev pub has_node : NodeSet → ℕ → Bool
has_node set node = slice_index_or set.has.items node false

-- which nodes are in, once one of them is in or not
abbrev pub with_member : ℕ → Bool → (ℕ → Bool) → ℕ → Bool
with_member changed is_in nodes node = if node == changed then is_in else nodes node
