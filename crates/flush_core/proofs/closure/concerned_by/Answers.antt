use Rattle.std.proofs.lemmas.Result.{IfOk-weaker}
use Rattle.flush_core.proofs.Concerned.{are_concerned}
use Rattle.flush_core.proofs.closure.concerned_by.Goals as goal

pub returns : goal.returns
returns c =
    IfOk-weaker c.with_named.result _ _
    (λ concerned joins first history inodes node is are.
    are_concerned first history c.args.past.now is c.args.cut.now inodes c.args.members.now (record { node = node; stamp = c.args.stamp }) are concerned
    (rw c.deref.ensures.value at joins))
    c.with_named.ensures
