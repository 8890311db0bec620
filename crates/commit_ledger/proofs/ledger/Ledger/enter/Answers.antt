use Rattle.std.proofs.Common.{rules}
use Rattle.commit_ledger.proofs.EntersAlong.{enter_goes}
use Rattle.commit_ledger.proofs.ledger.Ledger.enter.Goals as goal

pub returns-clause-goes : goal.returns-clause-goes
returns-clause-goes c = λ before grant past taken keeps rule.
    enter_goes c.args.core.0 c.args.number c.args.seen grant before c.args.self.now _ past
    (record { may = c.requires.may; enters = search rules; taken = taken; keeps = keeps; rule = rule })
