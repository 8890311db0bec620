use Rattle.std.proofs.Common.{ℕ, ◌+◌, ◌<◌, map, get_or}
use Rattle.dep_closure.proofs.orderly.ascends.Given as goal

abbrev pub invariant-loop-at : goal.invariant-loop-at
invariant-loop-at g l = (k : ℕ) → k + 1 < l.at → get_or (map g.T.ByNode.number l.items) k 0 < get_or (map g.T.ByNode.number l.items) (k + 1) 0
