use Rattle.driven_journals.specs.declared.due.Due.TheVariants as due
use Rattle.driven_journals.proofs.Driving.{fits_now, returned_due}
use Rattle.driven_journals.proofs.asking.give_back.Goals as goal

pub returns-clause-fits : goal.returns-clause-fits
returns-clause-fits g c =
    fits_now c.args.set.now c.args.pen.now c.give_back.new.pen c.give_back.ensures.outside c.give_back.ensures.room c.requires.has.room due.Rests
    (returned_due c.args.pen.now c.give_back.new.pen _ c.give_back.ensures.comes c.requires.has.writes.goes_on c.requires.has.no_flight)
