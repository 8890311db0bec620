use Rattle.std.proofs.Common.{rules, refl}
use Rattle.commit_ledger.proofs.EndsAlong.{pay_goes}
use Rattle.commit_ledger.proofs.ledger.Ledger.end.Goals as goal

pub returns-clause-goes : goal.returns-clause-goes
returns-clause-goes c = λ past slot turn keeps is.
    pay_goes c.args.core.0 turn.commit c.args.self.now _ past keeps is (search rules) slot turn refl
