use Rattle.std.proofs.Common.{sym, subst}
use Rattle.journal_set.specs.Making.{MayClose}
use Rattle.driven_journals.specs.Seats.{AreAtRest}
use Rattle.driven_journals.proofs.Cores.{may_close}
use Rattle.driven_journals.proofs.driven.Driven.end.Goals as goal

pub closed-requires-clause-may : goal.closed-requires-clause-may
closed-requires-clause-may g c κs within =
    subst (MayClose c.args.self.set) (sym c.in-Ok.ensures)
    (may_close c.args.self.set c.args.self.layout c.args.self.seats.items c.requires.driven.all c.requires.driven.some c.requires.driven.each
    (subst AreAtRest c.deref.ensures.value (c.are_at_rest.ensures c.if-are_at_rest.true)))
