-- Some of a directory's changes, by their stamps.
use Rattle.std.specs.Prelude.{ℕ, ◌==◌, ◌&&◌, nat_le, nat_lt, Bool, List, filter, Option, Some, None, if◌then◌else◌}
use Rattle.sfs_base.specs.declared.numbers.NodeId.{NodeId}
use Rattle.tree_laws.specs.declared.changes.Change.{Change}
use Rattle.tree_laws.specs.Logged.{is_end_of}

-- whether a change has this stamp
abbrev pub is_of_stamp : ℕ → Change → Bool
is_of_stamp stamp change = change.stamp.0 == stamp

-- whether a change lies from one stamp to below another
abbrev pub is_in_span : ℕ → ℕ → Change → Bool
is_in_span from below change = nat_le from change.stamp.0 && nat_lt change.stamp.0 below

-- the directory that a change ends, by its directory's changes of which some have its stamp
abbrev pub ended_by : List Change → Change → Option NodeId
ended_by changes change = if is_end_of (filter (is_of_stamp change.stamp.0) changes) change then Some change.child else None
