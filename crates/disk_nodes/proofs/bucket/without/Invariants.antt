use Rattle.std.proofs.Common.{◌≡◌, ◌≢◌, ◌⊎◌, ℕ, ◌<◌, ◌≤◌, get_or}
use Rattle.disk_nodes.proofs.bucket.without.Given as goal

abbrev pub invariant-loop-k : goal.invariant-loop-k
invariant-loop-k l = record {
  gone : (j : ℕ) → j < l.k → 0 < l.note → get_or l.left j 0 ≢ l.note;
  others : (j : ℕ) → get_or l.notes j 0 ≢ l.note → get_or l.left j 0 ≡ get_or l.notes j 0;
  less : (j : ℕ) → (get_or l.left j 0 ≡ 0) ⊎ (get_or l.left j 0 ≡ get_or l.notes j 0);
  rest : (j : ℕ) → l.k ≤ j → get_or l.left j 0 ≡ get_or l.notes j 0;
}
