use Rattle.driven_journals.proofs.Cores.{fits_on}
use Rattle.driven_journals.proofs.seat.turn_at.Goals as goal

pub returns-clause-fits : goal.returns-clause-fits
returns-clause-fits g c =
    fits_on c.args.set.now c.args.layout.now c.args.seat.now _ c.requires.fits.layout_is c.next_due-next.ensures.goes c.next_due-next.ensures.fits
