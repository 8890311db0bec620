use Rattle.std.proofs.Common.{ap, ◌∙◌}
use Rattle.flush_plan.proofs.Moving.{moves}
use Rattle.flush_plan.specs.Plan.{files_written}
use Rattle.flush_plan.proofs.planning.moves_of.Goals as goal

pub returns-clause-moves : goal.returns-clause-moves
returns-clause-moves c =
    moves c.args.start c.args.below c.args.logs.now c.args.concern.now c.args.old.now.items c.args.is_file c.in_ok-facts.facts c.requires.concern
    c.in_ok-facts.ensures c.in_ok-enter.enter.items c.in_ok-leave.leave.items c.in_ok-enter.ensures c.in_ok-leave.ensures

pub returns-clause-files : goal.returns-clause-files
returns-clause-files c = c.in_ok-files.ensures ∙ ap (λ b. files_written b c.args.change) c.writes_own_file-written.ensures
