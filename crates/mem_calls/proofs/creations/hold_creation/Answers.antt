use Rattle.std.proofs.Common.{◌<◌, length, sym, subst}
use Rattle.mem_calls.proofs.NewCells.{still_creation}
use Rattle.mem_calls.proofs.MakeFaults.{next_below}
use Rattle.mem_calls.proofs.creations.hold_creation.Goals as goal

pub hold_places-requires-clause-within : goal.hold_places-requires-clause-within
hold_places-requires-clause-within g c =
    next_below c.args.shared.now c.args.nodes c.requires.table c.args.numbers c.requires.numbers c.number.result.0
    (subst (λ n. n < length c.args.shared.now.first.made)
    (sym c.number.ensures) c.read_made-made.ensures.work.core) c.read_made-made.result c.next-next.result c.next-next.ensures

pub returns-then-part_in-made-clause-held : goal.returns-then-part_in-made-clause-held
returns-then-part_in-made-clause-held g c =
    still_creation c.args.nodes c.hold_places.new.core c.hold_part.new.core c.hold_part.ensures.still c.args.dir c.args.name.now c.args.kind c.next-next.result
    c.hold_places.ensures.held
