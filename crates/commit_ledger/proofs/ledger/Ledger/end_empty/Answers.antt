use Rattle.std.proofs.Common.{rules}
use Rattle.commit_ledger.proofs.EndsAlong.{empty_goes}
use Rattle.commit_ledger.proofs.ledger.Ledger.end_empty.Goals as goal

pub returns-clause-goes : goal.returns-clause-goes
returns-clause-goes c = λ past number turns keeps is granted.
    empty_goes c.args.core.0 number c.args.self.now _ past keeps is (search rules) granted turns
