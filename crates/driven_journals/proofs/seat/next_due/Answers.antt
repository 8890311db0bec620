use Rattle.std.proofs.Common.{subst}
use Rattle.driven_journals.specs.Due.{DueFits}
use Rattle.driven_journals.proofs.Driving.{rests_free}
use Rattle.driven_journals.proofs.seat.next_due.Goals as goal

pub ask-requires-clause-free : goal.ask-requires-clause-free
ask-requires-clause-free g c κs within =
    rests_free c.args.set.now c.args.pen.now (subst (DueFits c.args.set.now c.args.pen.now) c.in-Rests.is c.requires.fits)
