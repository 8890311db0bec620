use Rattle.std.proofs.Common.{List, ◌+◌, ◌-◌, ◌++◌, ap, ◌∙◌}
use Rattle.script.specs.declared.commands.Line.{Line}
use Rattle.made_script.specs.Made.{each, worker_lines}
use Rattle.made_script.proofs.InTurn.{turn_done}
use Rattle.made_script.proofs.phases.work.Goals as goal

pub loop-worker-preserved : goal.loop-worker-preserved
loop-worker-preserved c =
    let worker = c.loop-worker.worker in
    let workers = c.args.workers in
    ap (λ (l : List Line). l ++ each (worker_lines c.args.seed c.args.count) (worker + 1) (workers - (worker + 1))) c.in_ok-push_items.ensures
    ∙ turn_done (worker_lines c.args.seed c.args.count) c.loop-worker.lines.items worker workers c.loop-worker-test.true
    ∙ c.loop-worker.invariant
