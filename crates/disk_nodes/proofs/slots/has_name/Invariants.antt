use Rattle.std.proofs.Common.{◌≡◌, ℕ, ◌<◌, get_or, None, false}
use Rattle.disk_nodes.specs.Indexed.{slot_has_name}
use Rattle.disk_nodes.proofs.slots.has_name.Given as goal

abbrev pub invariant-loop-k : goal.invariant-loop-k
invariant-loop-k l = (j : ℕ) → j < l.k → slot_has_name l.name (get_or l.block j None) ≡ false
