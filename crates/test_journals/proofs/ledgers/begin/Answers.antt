use Rattle.test_journals.proofs.Chain.{owing_may_end}
use Rattle.test_journals.proofs.ledgers.begin.Goals as goal

pub returns-clause-may : goal.returns-clause-may
returns-clause-may g c =
    owing_may_end c.args.core.0 _ c.args.ledger.now c.owe.new.self c.requires.may c.owe.ensures.owes
