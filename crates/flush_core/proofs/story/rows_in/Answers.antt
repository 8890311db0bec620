use Rattle.std.proofs.Common.{ap, ◌∙◌}
use Rattle.std.proofs.lemmas.Result.{IfOk-weaker}
use Rattle.flush_core.specs.Named.{kept_rows}
use Rattle.flush_core.proofs.Stories.{kept_rows_cut}
use Rattle.flush_core.proofs.story.rows_in.Goals as goal

pub returns : goal.returns
returns c =
    IfOk-weaker c.rows_of.result _ _
    (λ names is_rows history is. is_rows ∙ ap (kept_rows c.args.first.now c.deref.result.now c.args.directory.0) c.get.ensures
    ∙ kept_rows_cut c.args.first.now history c.args.past.now c.deref.result.now c.args.cut.now c.args.directory.0 is c.deref.ensures.value)
    c.rows_of.ensures
