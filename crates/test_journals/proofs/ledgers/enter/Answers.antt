use Rattle.std.proofs.Common.{rules}
use Rattle.commit_ledger.specs.Calls.{Prepares, MayEnter}
use Rattle.test_journals.proofs.Chain.{entered_may_return}
use Rattle.test_journals.proofs.ledgers.enter.Goals as goal

pub returns-clause-may : goal.returns-clause-may
returns-clause-may g c =
    let prepares : Prepares c.args.seen.now c.args.need c.got-number.result c.args.ledger.now c.prepare.new.self =
    rw c.got-number.ensures at c.prepare.ensures.ok in
    let may : MayEnter c.args.core.0 c.got-number.result.seen.items c.prepare.new.self = search rules in
    entered_may_return c.args.core.0 c.got-number.result.number c.got-number.result.seen.items c.got-number.result.grant c.args.ledger.now
    c.prepare.new.self c.enter.new.self prepares.taken may c.enter.ensures.enters
