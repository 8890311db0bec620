use Rattle.dep_closure.proofs.Parts.{stamp_ends, stamp_goes_on}
use Rattle.dep_closure.proofs.spans.of_stamp.Goals as goal

pub returns-in-Some : goal.returns-in-Some
returns-in-Some c = stamp_ends c.args.changes.now c.requires.order c.args.stamp.0 c.requires.no_lower c.in-Some.end c.in-Some.ensures

pub returns-in-None : goal.returns-in-None
returns-in-None c = stamp_goes_on c.args.changes.now c.requires.order c.args.stamp.0 c.requires.no_lower c.in-None.ensures
