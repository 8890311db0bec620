use Rattle.std.proofs.Common.{rules, ◌<◌, length}
use Rattle.driven_journals.proofs.Cores.{driven_put, fits_there, same_fits}
use Rattle.driven_journals.proofs.driven.Driven.hand_over.Goals as goal

pub returns-then-place-len : goal.returns-then-place-len
returns-then-place-len g c =
    let low : c.args.core < length c.args.self.now.seats.items = search rules in
    let was = c.index_mut.result.now in
    let same = same_fits c.args.self.now.set c.args.self.now.layout was c.hand_to.new.seat c.hand_to.ensures.due c.hand_to.ensures.pen
    (fits_there c.args.self.now c.args.core was low c.index_mut.ensures.value c.requires.driven)
    in
    record { driven = driven_put c.args.self.now c.args.core was c.hand_to.new.seat low c.index_mut.ensures.value c.requires.driven same.0 same.1 }
