use Rattle.std.proofs.Common.{◌≡◌, ◌-◌, ◌++◌}
use Rattle.made_script.specs.Made.{each, worker_lines}
use Rattle.made_script.proofs.phases.work.Given as goal

-- the lines so far and those that are left are all
abbrev pub invariant-loop-worker : goal.invariant-loop-worker
invariant-loop-worker l = l.lines.items ++ each (worker_lines l.seed l.count) l.worker (l.workers - l.worker) ≡ each (worker_lines l.seed l.count) 0 l.workers
