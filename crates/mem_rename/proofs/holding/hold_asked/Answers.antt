use Rattle.std.proofs.Common.{sym, subst, length}
use Rattle.mem_values.specs.Start.{given_by}
use Rattle.mem_rename.proofs.SoFar.{HoldsSoFar, begins, goes_on, may_go_on, room_for, ends, room_left, one_is_tree_cell, tree_cell}
use Rattle.mem_rename.proofs.holding.hold_asked.Goals as goal

pub loop-init : goal.loop-init
loop-init g c = begins (given_by c.args.shared.now) c.args.shared.now c.args.nodes c.args.cells.now c.requires.cells c.args.core.now c.requires.work
    c.requires.above

pub returns-in_default-clause-work : goal.returns-in_default-clause-work
returns-in_default-clause-work g c = c.loop.invariant.work

pub returns-in_default-clause-holds : goal.returns-in_default-clause-holds
returns-in_default-clause-holds g c =
    ends (given_by c.args.shared.now) c.args.shared.now c.args.nodes c.args.cells.now c.requires.cells c.args.core.now c.loop.last c.loop.core
    c.loop.invariant
    (λ cell among. c.in_default.ensures cell among)

pub returns-in_default-clause-room : goal.returns-in_default-clause-room
returns-in_default-clause-room g c =
    room_left (given_by c.args.shared.now) c.args.shared.now c.args.nodes c.args.cells.now c.requires.cells c.args.core.now c.loop.last c.loop.core
    c.loop.invariant

pub hold_more-requires-clause-work : goal.hold_more-requires-clause-work
hold_more-requires-clause-work g c = c.loop.invariant.work

pub hold_more-requires-clause-cell : goal.hold_more-requires-clause-cell
hold_more-requires-clause-cell g c =
    tree_cell c.args.nodes (length c.args.shared.now.first.made) c.in-Some-next_above.cell
    (one_is_tree_cell c.args.nodes c.args.cells.now c.in-Some-next_above.cell c.requires.cells c.in-Some-next_above.ensures.among)

pub hold_more-requires-clause-above : goal.hold_more-requires-clause-above
hold_more-requires-clause-above g c =
    may_go_on (given_by c.args.shared.now) c.args.shared.now c.args.nodes c.args.cells.now c.requires.cells c.args.core.now c.loop.last c.loop.core
    c.loop.invariant
    c.in-Some-next_above.cell c.in-Some-next_above.ensures

pub hold_more-requires-clause-room : goal.hold_more-requires-clause-room
hold_more-requires-clause-room g c =
    room_for (given_by c.args.shared.now) c.args.shared.now c.args.nodes c.args.cells.now c.requires.cells c.args.core.now c.loop.last c.loop.core
    c.loop.invariant
    c.in-Some-next_above.cell c.in-Some-next_above.ensures c.requires.room

pub loop-preserved : goal.loop-preserved
loop-preserved g c =
    subst (λ p. HoldsSoFar (given_by c.args.shared.now) c.args.shared.now c.args.nodes c.args.cells.now p c.args.core.now c.hold_more.new.core)
    (sym c.place-last.ensures)
    (goes_on (given_by c.args.shared.now) c.args.shared.now c.args.nodes c.args.cells.now c.requires.cells c.args.core.now c.loop.last c.loop.core
    c.loop.invariant
    c.in-Some-next_above.cell c.hold_more.new.core c.in-Some-next_above.ensures c.hold_more.ensures.work c.hold_more.ensures.gains)
