use Rattle.std.proofs.Common.{arith}
use Rattle.disk_nodes.proofs.Telling.{note_gone, forget_keeps, forget_less}
use Rattle.disk_nodes.proofs.bucket.Bucket.forget.Goals as goal

pub returns-clause-gone : goal.returns-clause-gone
returns-clause-gone c = λ low.
    note_gone c.args.self.now c.without-self.result c.args.place
    (λ k within. c.without-self.ensures.gone k (omega (arith, within)) (omega arith))

pub returns-clause-others : goal.returns-clause-others
returns-clause-others c =
    forget_keeps c.args.self.now c.without-self.result c.args.place (omega arith)
    (λ k within. c.without-self.ensures.others k (omega (arith, within)))

pub returns-clause-less : goal.returns-clause-less
returns-clause-less c =
    forget_less c.args.self.now c.without-self.result (omega arith) (λ k within. c.without-self.ensures.less k (omega (arith, within)))
