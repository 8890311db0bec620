use Rattle.std.proofs.Common.{sym}
use Rattle.commit_ledger.proofs.Kept.{unmoved_are_as_seen}
use Rattle.commit_ledger.proofs.SeenLasts.{none_moved}
use Rattle.commit_ledger.proofs.ledger.Ledger.moved.Goals as goal

pub returns-clause-unmoved : goal.returns-clause-unmoved
returns-clause-unmoved c = λ past keeps.
    unmoved_are_as_seen c.args.self.now past c.args.seen.now keeps
    (sym (none_moved c.args.self.now c.args.seen.now c.loop-one.one-index c.loop-one-test.false c.loop-one.invariant))
