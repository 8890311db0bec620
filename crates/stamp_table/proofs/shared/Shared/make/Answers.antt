use Rattle.std.proofs.Common.{ap, length, subst, sym}
use Rattle.stamp_table.specs.Placing.{IsLaidOut}
use Rattle.stamp_table.proofs.Beginning.{laid_in_slots}
use Rattle.stamp_table.proofs.shared.Shared.make.Goals as goal

pub make_of_slots-requires-clause-cells : goal.make_of_slots-requires-clause-cells
make_of_slots-requires-clause-cells g c =
    let slots = c.in_ok-slots.ensures in
    laid_in_slots g.M.Meaning.stands c.args.given.value c.args.measure c.args.first.now g.M.Meaning.slot_at g.M.Meaning.place_at c.args.cells.items
    c.in_ok-slots.slots.items (g.M.Meaning.one_to_one c.args.measure) c.requires.laid.fills slots.count slots.each c.requires.cells

pub make_of_slots-requires-clause-laid : goal.make_of_slots-requires-clause-laid
make_of_slots-requires-clause-laid g c =
    subst (λ n. IsLaidOut n (g.M.Meaning.slot_at c.args.measure) (g.M.Meaning.place_at c.args.measure) c.args.measure) (sym c.in_ok-slots.ensures.count)
    c.requires.laid
