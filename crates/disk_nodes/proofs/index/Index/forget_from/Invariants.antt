use Rattle.std.proofs.Common.{◌≡◌, ℕ, ◌<◌, List, true}
use Rattle.disk_nodes.specs.Names.{bucket_with, tells}
use Rattle.disk_nodes.proofs.index.Index.forget_from.Given as goal

abbrev pub invariant-loop-place : goal.invariant-loop-place
invariant-loop-place l = record {
  told : (name : List ℕ) (n : ℕ) → n < l.from → tells (bucket_with l.initial.self-inside.buckets.items name) n ≡ true
      → tells (bucket_with l.self-inside.buckets.items name) n ≡ true;
  full : l.self-inside.full.items ≡ l.initial.self-inside.full.items;
}
