use Rattle.std.proofs.Common.{◌≡◌, ℕ, ◌+◌, ◌<◌, [], true, get_or, length}
use Rattle.std.specs.Prelude.{Contains}
use Rattle.disk_nodes.specs.Indexed.{has_name}
use Rattle.disk_nodes.proofs.slots.push_noted.Given as goal

abbrev pub invariant-loop-k : goal.invariant-loop-k
invariant-loop-k l = record {
  kept : (n : ℕ) → Contains l.fn.places.items n → Contains l.places.items n;
  each : (j n : ℕ) → j < l.k → get_or l.bucket.notes j 0 ≡ n + 1 → n < length l.blocks → has_name l.name (get_or l.blocks n []) ≡ true
      → Contains l.places.items n;
}
