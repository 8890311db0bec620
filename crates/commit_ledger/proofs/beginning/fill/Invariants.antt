use Rattle.std.proofs.Common.{◌≡◌, ◌+◌, ◌≤◌, ℕ, length}
use Rattle.std.specs.Prelude.{vec_len, vec_capacity}
use Rattle.commit_ledger.specs.View.{last_at}
use Rattle.commit_ledger.proofs.beginning.fill.Given as goal

abbrev pub invariant-loop : goal.invariant-loop
invariant-loop l = record {
  room : vec_len l.lasts + l.missing ≤ vec_capacity l.lasts + l.counter;
  long : length l.lasts.items ≡ length l.fn.lasts.items + l.counter;
  same : (node : ℕ) → last_at l.lasts.items node ≡ last_at l.fn.lasts.items node;
}
