use Rattle.std.proofs.Common.{rules}
use Rattle.commit_ledger.proofs.EndsAlong.{return_goes}
use Rattle.commit_ledger.proofs.ledger.Ledger.give_back.Goals as goal

pub returns-clause-goes : goal.returns-clause-goes
returns-clause-goes c = λ past number keeps is granted.
    return_goes c.args.core.0 number c.args.grant c.args.self.now _ past
    (record { keeps = keeps; returns = search rules; number_is = is; granted = granted })
