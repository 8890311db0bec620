use Rattle.std.proofs.lemmas.Result.{IfOk-weaker}
use Rattle.flush_core.proofs.ChildRows.{are_children}
use Rattle.flush_core.proofs.named.children_at.Goals as goal

pub returns : goal.returns
returns c =
    IfOk-weaker c.children_in.result _ _
    (λ named gathered sound. are_children c.args.first.now c.args.changes.now c.args.cut.now c.in_ok-directories.directories.items c.deref.result.now named
    sound c.in_ok-directories.ensures.nodes c.in_ok-directories.ensures.changed c.deref.ensures.value gathered)
    c.children_in.ensures
