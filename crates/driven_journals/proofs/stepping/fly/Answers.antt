use Rattle.driven_journals.specs.declared.due.Due.TheVariants as due
use Rattle.std.proofs.Common.{Ok, subst}
use Rattle.disk_box.specs.Pens.{own_at}
use Rattle.journal_set.specs.declared.flying.Progress.{Progress}
use Rattle.journal_set.specs.Flying.{TurnComes}
use Rattle.driven_journals.proofs.Driving.{fits_now, goes_due, landed_due, turned_due}
use Rattle.driven_journals.proofs.stepping.fly.Goals as goal

pub returns-in-Ok-Goes-clause-fits : goal.returns-in-Ok-Goes-clause-fits
returns-in-Ok-Goes-clause-fits g c =
    fits_now c.args.set.now c.args.pen.now c.commit_turn.new.pen c.commit_turn.ensures.outside c.commit_turn.ensures.room c.requires.fits.room
    (due.Flies c.commit_turn.new.flight)
    (goes_due c.args.pen.now c.commit_turn.new.pen c.args.flight c.commit_turn.new.flight c.requires.fits.is c.commit_turn.ensures.same
    (subst (λ (p : Progress). TurnComes c.args.flight c.args.pen.now.view.core (own_at c.args.pen.now) (own_at c.commit_turn.new.pen) (Ok p))
    c.in-Ok-Goes.field-0-is c.in-Ok-Goes.ensures.comes))

pub returns-in-Ok-Filled-clause-fits : goal.returns-in-Ok-Filled-clause-fits
returns-in-Ok-Filled-clause-fits g c =
    fits_now c.args.set.now c.args.pen.now c.commit_turn.new.pen c.commit_turn.ensures.outside c.commit_turn.ensures.room c.requires.fits.room
    (due.Flies c.commit_turn.new.flight)
    (goes_due c.args.pen.now c.commit_turn.new.pen c.args.flight c.commit_turn.new.flight c.requires.fits.is c.commit_turn.ensures.same
    (subst (λ (p : Progress). TurnComes c.args.flight c.args.pen.now.view.core (own_at c.args.pen.now) (own_at c.commit_turn.new.pen) (Ok p))
    c.in-Ok-Filled.field-0-is c.in-Ok-Filled.ensures.comes))

pub returns-in-Ok-Durable-clause-fits : goal.returns-in-Ok-Durable-clause-fits
returns-in-Ok-Durable-clause-fits g c =
    fits_now c.args.set.now c.args.pen.now c.commit_turn.new.pen c.commit_turn.ensures.outside c.commit_turn.ensures.room c.requires.fits.room due.Rests
    (landed_due c.args.pen.now c.commit_turn.new.pen c.args.flight c.in-Ok-Durable.ack c.requires.fits.is
    (subst (λ (p : Progress). TurnComes c.args.flight c.args.pen.now.view.core (own_at c.args.pen.now) (own_at c.commit_turn.new.pen) (Ok p))
    c.in-Ok-Durable.field-0-is c.in-Ok-Durable.ensures.comes))

pub returns-in-Err-clause-fits : goal.returns-in-Err-clause-fits
returns-in-Err-clause-fits g c =
    fits_now c.args.set.now c.args.pen.now c.commit_turn.new.pen c.commit_turn.ensures.outside c.commit_turn.ensures.room c.requires.fits.room due.Over
    (turned_due c.args.pen.now c.commit_turn.new.pen c.args.flight c.in-Err.fault c.in-Err.ensures.comes)
