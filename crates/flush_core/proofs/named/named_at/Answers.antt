use Rattle.std.proofs.lemmas.Result.{IfOk-weaker}
use Rattle.flush_core.proofs.ChildRows.{are_named}
use Rattle.flush_core.proofs.named.named_at.Goals as goal

pub returns : goal.returns
returns c =
    IfOk-weaker c.children_at.result _ _
    (λ named children history sound is. are_named c.args.first.now history c.args.past.now c.args.cut.now c.deref.result.now named is c.deref.ensures.value
    (children sound))
    c.children_at.ensures
