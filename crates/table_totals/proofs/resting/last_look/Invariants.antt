use Rattle.std.proofs.Common.{ℕ, ◌<◌, ◌≤◌, get_or}
use Rattle.workers.specs.declared.worker.Worker.{Worker}
use Rattle.table_totals.proofs.resting.last_look.Given as goal

abbrev pub invariant-loop-worker : goal.invariant-loop-worker
invariant-loop-worker g l = (k : ℕ) (d : Worker g.row.P.Denot) → k < l.worker-index → (get_or l.workers k d).until ≤ l.last
