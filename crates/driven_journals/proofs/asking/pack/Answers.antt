use Rattle.std.proofs.Common.{sym, subst}
use Rattle.journal_set.specs.Beginning.{CanBeWritten}
use Rattle.journal_set.proofs.Committed.{packed_can_be_written}
use Rattle.driven_journals.specs.Due.{HasGrant}
use Rattle.driven_journals.proofs.Driving.{packed_due}
use Rattle.driven_journals.proofs.asking.pack.Goals as goal

pub returns-in-Ok-clause-fits : goal.returns-in-Ok-clause-fits
returns-in-Ok-clause-fits g c =
    let packed = c.in-Ok.ensures.ok in
    let can = packed_can_be_written c.args.layout.now c.in-Some.tx c.args.grant c.args.job.now.fsync c.in-Ok.writing c.in-Some.ensures packed in
    packed_due c.args.set.now c.args.pen.now c.args.grant c.in-Ok.writing c.requires.has packed.grant_is
    (subst (λ l. CanBeWritten l c.in-Ok.writing) (sym c.requires.layout) can)

pub give_back-requires-in-Err-clause-has : goal.give_back-requires-in-Err-clause-has
give_back-requires-in-Err-clause-has g c κs within = subst (HasGrant c.args.set.now c.args.pen.now) (sym c.in-Err.ensures.back) c.requires.has
