use Rattle.std.proofs.Common.{◌≡◌, ℕ, ◌<◌, [], length, get_or, true}
use Rattle.std.specs.Prelude.{Contains}
use Rattle.absorb.specs.declared.nets.NetRow.{NetRow}
use Rattle.disk_nodes.specs.Indexed.{has_name}
use Rattle.disk_change.proofs.directory.named_places.Given as goal

abbrev pub invariant-loop-row : goal.invariant-loop-row
invariant-loop-row l = (j n : ℕ) (d : NetRow) → j < l.row-index → n < length l.slots → has_name (get_or l.net j d).name (get_or l.slots n []) ≡ true
    → Contains l.named.items n
