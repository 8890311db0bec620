use Rattle.std.proofs.Common.{◌≡◌, ◌≤◌, ◌+◌, ◌++◌, replicate, vec_len, vec_capacity}
use Rattle.std.specs.FinMap.{empty}
use Rattle.sfs_tree.proofs.rows.add_buckets.Given as goal

abbrev pub invariant-loop-added : goal.invariant-loop-added
invariant-loop-added l = record {
  items : l.buckets.items ≡ l.initial.buckets.items ++ replicate l._added empty;
  count : vec_len l.buckets ≡ vec_len l.initial.buckets + l._added;
  room : vec_len l.initial.buckets + 8 ≤ vec_capacity l.buckets;
}
