use Rattle.mem_rename.specs.Moving.{standing}
use Rattle.mem_rename.proofs.HeldChanges.{below_more}
use Rattle.mem_rename.proofs.changing.all_stand.Goals as goal

pub loop-number-preserved : goal.loop-number-preserved
loop-number-preserved c = below_more c.args.nodes c.in-Some.node
    (standing c.args.stands) c.args.core.now c.loop-number.number c.loop-number.core c.stand.new.core
    (rw c.in-Some.is at c.requires.within) c.loop-number-test.true c.loop-number.invariant c.stand.ensures
