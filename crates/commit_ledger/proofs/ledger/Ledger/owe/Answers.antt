use Rattle.std.proofs.Common.{refl}
use Rattle.commit_ledger.proofs.OwesAlong.{owe_goes}
use Rattle.commit_ledger.proofs.ledger.Ledger.owe.Goals as goal

pub returns-clause-goes : goal.returns-clause-goes
returns-clause-goes c = λ past number filling node stamp keeps is granted.
    owe_goes c.args.core.0 number _ c.args.self.now c.put_debt.new.self past
    (record { keeps = keeps; owes = c.put_debt.ensures; number_is = is; granted = granted }) filling node stamp c.args.blocks c.args.inodes refl
