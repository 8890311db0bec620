use Rattle.std.proofs.Common.{sym, subst}
use Rattle.driven_journals.specs.Due.{DueFits, due_behind}
use Rattle.driven_journals.specs.declared.due.Due.TheVariants as due
use Rattle.driven_journals.proofs.Driving.{emptied_due, fits_now, free_ready, unemptied_due}
use Rattle.driven_journals.proofs.resting.empty_one.Goals as goal

pub commit_empty-requires-clause-ready : goal.commit_empty-requires-clause-ready
commit_empty-requires-clause-ready g c κs within = free_ready c.args.set.now c.args.pen.now c.requires.free

pub returns-in-Ok-clause-fits : goal.returns-in-Ok-clause-fits
returns-in-Ok-clause-fits g c =
    fits_now c.args.set.now c.args.pen.now c.commit_empty.new.pen c.commit_empty.ensures.outside c.commit_empty.ensures.room c.requires.free.room due.Rests
    (emptied_due c.args.pen.now c.commit_empty.new.pen _ c.in-Ok.ack c.in-Ok.ensures.comes c.requires.free.eased)

pub returns-in-Err-clause-fits : goal.returns-in-Err-clause-fits
returns-in-Err-clause-fits g c =
    subst (DueFits c.args.set.now c.commit_empty.new.pen) (sym c.due_behind.ensures)
    (fits_now c.args.set.now c.args.pen.now c.commit_empty.new.pen c.commit_empty.ensures.outside c.commit_empty.ensures.room c.requires.free.room
    (due_behind c.in-Err.fault) (unemptied_due c.args.pen.now c.commit_empty.new.pen _ c.in-Err.fault c.in-Err.ensures.comes c.requires.free.eased))
