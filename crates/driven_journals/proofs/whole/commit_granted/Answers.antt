use Rattle.std.proofs.Common.{sym, subst}
use Rattle.journal_set.specs.Committing.{CanBeCommitted}
use Rattle.driven_journals.specs.Due.{DueFits, due_behind}
use Rattle.driven_journals.specs.declared.due.Due.TheVariants as due
use Rattle.driven_journals.proofs.Driving.{committed_due, fits_now, uncommitted_due}
use Rattle.driven_journals.proofs.whole.commit_granted.Goals as goal

pub commit-requires-clause-written : goal.commit-requires-clause-written
commit-requires-clause-written g c κs within = subst (λ l. CanBeCommitted l c.in-Some.tx) (sym c.requires.layout) c.in-Some.ensures

pub returns-in-Ok-clause-fits : goal.returns-in-Ok-clause-fits
returns-in-Ok-clause-fits g c =
    fits_now c.args.set.now c.args.pen.now c.commit.new.pen c.commit.ensures.outside c.commit.ensures.room c.requires.has.room due.Rests
    (committed_due c.args.pen.now c.commit.new.pen _ c.in-Ok.ack c.in-Ok.ensures.comes c.requires.has.writes.goes_on)

pub returns-in-Err-clause-fits : goal.returns-in-Err-clause-fits
returns-in-Err-clause-fits g c =
    subst (DueFits c.args.set.now c.commit.new.pen) (sym c.due_behind.ensures)
    (fits_now c.args.set.now c.args.pen.now c.commit.new.pen c.commit.ensures.outside c.commit.ensures.room c.requires.has.room
    (due_behind c.in-Err.fault)
    (uncommitted_due c.args.pen.now c.commit.new.pen _ c.in-Err.fault c.in-Err.ensures.comes c.requires.has.writes.goes_on c.requires.has.no_flight))
