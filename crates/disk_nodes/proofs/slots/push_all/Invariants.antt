use Rattle.std.proofs.Common.{◌≡◌, ℕ, ◌<◌, [], true, get_or, length}
use Rattle.std.specs.Prelude.{Contains}
use Rattle.disk_nodes.specs.Indexed.{has_name}
use Rattle.disk_nodes.proofs.slots.push_all.Given as goal

abbrev pub invariant-loop-place : goal.invariant-loop-place
invariant-loop-place l = record {
  kept : (n : ℕ) → Contains l.fn.places.items n → Contains l.places.items n;
  each : (n : ℕ) → n < l.place → n < length l.blocks → has_name l.name (get_or l.blocks n []) ≡ true → Contains l.places.items n;
}
