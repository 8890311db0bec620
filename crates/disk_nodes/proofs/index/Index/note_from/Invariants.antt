use Rattle.std.proofs.Common.{◌≡◌, ℕ, ◌<◌, length, get_or, []}
use Rattle.disk_nodes.specs.Names.{TellOf}
use Rattle.disk_nodes.proofs.index.Index.note_from.Given as goal

abbrev pub invariant-loop-place : goal.invariant-loop-place
invariant-loop-place l = record {
  told : (n : ℕ) → n < l.place → n < length l.blocks → TellOf l.self-inside.buckets.items n (get_or l.blocks n []);
  full : l.self-inside.full.items ≡ l.initial.self-inside.full.items;
}
