use Rattle.std.proofs.Common.{sym, subst}
use Rattle.journal_set.proofs.Turned.{goes_twice}
use Rattle.driven_journals.specs.Due.{DueFits, due_behind}
use Rattle.driven_journals.proofs.Driving.{fits_now, free_ready, granted, has_now, refused_due}
use Rattle.driven_journals.proofs.resting.try_one.Goals as goal

pub reserve-requires-clause-ready : goal.reserve-requires-clause-ready
reserve-requires-clause-ready g c κs within = free_ready c.args.set.now c.args.pen.now c.requires.free

pub give_back-next-requires-clause-has : goal.give_back-next-requires-clause-has
give_back-next-requires-clause-has g c κs within =
    has_now c.args.set.now c.args.pen.now c.reserve.new.pen c.reserve.ensures.outside c.reserve.ensures.room c.requires.free.room c.in-Ok.grant
    (granted c.args.pen.now c.reserve.new.pen _ c.in-Ok.grant c.in-Ok.ensures.comes c.requires.free.eased)

pub returns-in-Ok-clause-goes : goal.returns-in-Ok-clause-goes
returns-in-Ok-clause-goes g c =
    goes_twice c.args.pen.now c.reserve.new.pen c.give_back-next.new.pen c.reserve.ensures.goes c.give_back-next.ensures.goes

pub returns-in-Err-clause-fits : goal.returns-in-Err-clause-fits
returns-in-Err-clause-fits g c =
    subst (DueFits c.args.set.now c.reserve.new.pen) (sym c.due_behind.ensures)
    (fits_now c.args.set.now c.args.pen.now c.reserve.new.pen c.reserve.ensures.outside c.reserve.ensures.room c.requires.free.room
    (due_behind c.in-Err.fault) (refused_due c.args.pen.now c.reserve.new.pen _ c.in-Err.fault c.in-Err.ensures.comes c.requires.free.eased))
