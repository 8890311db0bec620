use Rattle.std.proofs.Common.{◌≡◌, ℕ, ◌<◌, ◌≤◌, ◌++◌, length}
use Rattle.std.specs.List.{flat_map, range_with_len}
use Rattle.block_map.specs.Remap.{there}
use Rattle.disk_change.specs.GivenUp.{pointers_of_place}
use Rattle.disk_change.proofs.given_up.push_held.Given as goal

abbrev pub invariant-loop-k : goal.invariant-loop-k
invariant-loop-k l = record {
  blocks : l.blocks.items ≡ l.initial.blocks.items ++ flat_map (λ k. flat_map there (pointers_of_place l.tables.items k)) (range_with_len 0 l.k);
  counts : (k : ℕ) → k < l.k → length (pointers_of_place l.tables.items k) ≤ 1024;
}
