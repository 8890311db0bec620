use Rattle.driven_journals.specs.declared.due.Due.TheVariants as due
use Rattle.std.proofs.Common.{Ok, subst}
use Rattle.journal_set.specs.declared.waiting.Beginning.{Beginning}
use Rattle.journal_set.specs.Committing.{BeginComes}
use Rattle.driven_journals.proofs.Driving.{begun_due, fits_now, unbegun_due, waits_due}
use Rattle.driven_journals.proofs.stepping.begin.Goals as goal

pub returns-in-Ok-Waits-clause-fits : goal.returns-in-Ok-Waits-clause-fits
returns-in-Ok-Waits-clause-fits g c =
    fits_now c.args.set.now c.args.pen.now c.begin_turn.new.pen c.begin_turn.ensures.outside c.begin_turn.ensures.room c.requires.fits.room
    (due.Waits c.in-Ok-Waits.still)
    (waits_due c.args.pen.now c.begin_turn.new.pen c.args.writing c.in-Ok-Waits.still
    (subst (λ (b : Beginning). BeginComes c.args.writing c.args.pen.now c.begin_turn.new.pen (Ok b)) c.in-Ok-Waits.field-0-is c.in-Ok-Waits.ensures.comes)
    c.begin_turn.ensures.goes c.requires.fits.is)

pub returns-in-Ok-Begun-clause-fits : goal.returns-in-Ok-Begun-clause-fits
returns-in-Ok-Begun-clause-fits g c =
    fits_now c.args.set.now c.args.pen.now c.begin_turn.new.pen c.begin_turn.ensures.outside c.begin_turn.ensures.room c.requires.fits.room
    (due.Flies c.in-Ok-Begun.flight)
    (begun_due c.args.pen.now c.begin_turn.new.pen c.args.writing c.in-Ok-Begun.flight
    (subst (λ (b : Beginning). BeginComes c.args.writing c.args.pen.now c.begin_turn.new.pen (Ok b)) c.in-Ok-Begun.field-0-is c.in-Ok-Begun.ensures.comes)
    c.requires.fits.is.0.goes_on)

pub returns-in-Err-clause-fits : goal.returns-in-Err-clause-fits
returns-in-Err-clause-fits g c =
    fits_now c.args.set.now c.args.pen.now c.begin_turn.new.pen c.begin_turn.ensures.outside c.begin_turn.ensures.room c.requires.fits.room due.Over
    (unbegun_due c.args.pen.now c.begin_turn.new.pen c.args.writing c.in-Err.fault c.in-Err.ensures.comes)
