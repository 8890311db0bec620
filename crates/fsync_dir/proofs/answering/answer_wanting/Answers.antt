use Rattle.std.proofs.Common.{◌∙◌}
use Rattle.fsync_catch.proofs.Going.{works_goes}
use Rattle.fsync_dir.proofs.Waiting.{ends_untold, lets_go, waiting_on}
use Rattle.fsync_dir.proofs.answering.answer_wanting.Goals as goal

pub answer-requires-clause-waits : goal.answer-requires-clause-waits
answer-requires-clause-waits c =
    waiting_on c.args.core.now c.let_all_go.new.core (works_goes c.args.core.now c.let_all_go.new.core c.let_all_go.ensures.on) ∙ c.requires.waits

pub returns-clause-ends : goal.returns-clause-ends
returns-clause-ends c =
    ends_untold c.args.table.now c.args.fsync _ c.args.core.now c.let_all_go.new.core c.answer.new.self
    (lets_go c.args.table.now c.args.core.now c.let_all_go.new.core (rw c.shared.ensures at c.let_all_go.ensures.work) c.let_all_go.ensures.on
    c.let_all_go.ensures.none
    c.let_all_go.ensures.idle)
    c.answer.ensures
