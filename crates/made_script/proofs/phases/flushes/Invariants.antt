use Rattle.std.proofs.Common.{◌≡◌, ◌-◌, ◌++◌}
use Rattle.made_script.specs.Made.{each, flush_line}
use Rattle.made_script.proofs.phases.flushes.Given as goal

-- the lines so far and those that are left are all
abbrev pub invariant-loop-worker : goal.invariant-loop-worker
invariant-loop-worker l = l.lines.items ++ each flush_line l.worker (l.workers - l.worker) ≡ each flush_line 0 l.workers
