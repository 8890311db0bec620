use Rattle.std.proofs.Common.{◌∷◌, [], arith, sym}
use Rattle.mem_values.specs.Start.{given_by}
use Rattle.fsync_catch.proofs.Going.{goes_again, roomier_goes, roomier_none, room_left, waits_on, works_goes}
use Rattle.fsync_catch.proofs.HeldAlone.{caught_alone, held_then, lacks_alone, works_then}
use Rattle.fsync_catch.proofs.alone.catch_alone.Goals as goal

pub cut_with_inode-requires : goal.cut_with_inode-requires
cut_with_inode-requires g c =
    held_then (given_by c.shared-shared.result.now) c.shared-shared.result.now c.nodes-nodes.result c.args.fsync c.hold_nodes.new.core c.look.result
    c.look.new.self
    (rw (← c.shared-shared.ensures) at c.nodes-nodes.ensures.table) c.hold_nodes.ensures.work c.hold_nodes.ensures.holds (rw (← c.nodes-nodes.ensures.count)
    at c.requires.within) c.look.ensures

pub let_all_go-requires : goal.let_all_go-requires
let_all_go-requires g c =
    works_then (given_by c.shared-shared.result.now) c.shared-shared.result.now c.nodes-nodes.result c.args.fsync c.hold_nodes.new.core c.look.result
    c.look.new.self
    (rw (← c.shared-shared.ensures) at c.nodes-nodes.ensures.table) c.hold_nodes.ensures.work c.hold_nodes.ensures.holds (rw (← c.nodes-nodes.ensures.count)
    at c.requires.within) c.look.ensures

pub returns-in-Some-clause-work : goal.returns-in-Some-clause-work
returns-in-Some-clause-work g c =
    rw c.shared-shared.ensures at (works_then (given_by c.shared-shared.result.now) c.shared-shared.result.now c.nodes-nodes.result c.args.fsync
    c.hold_nodes.new.core c.look.result c.look.new.self
    (rw (← c.shared-shared.ensures) at c.nodes-nodes.ensures.table) c.hold_nodes.ensures.work c.hold_nodes.ensures.holds (rw (← c.nodes-nodes.ensures.count)
    at c.requires.within) c.look.ensures)

pub returns-in-Some-clause-caught : goal.returns-in-Some-clause-caught
returns-in-Some-clause-caught g c =
    let before = c.args.core.now in
    let roomy = c.reserve.new.self in
    let mid = c.hold_nodes.new.core in
    let on = c.hold_nodes.ensures.on in
    let same = c.in_ok-reserve.ensures.same in
    let cells = c.in_ok-reserve.ensures.cells in
    let room = room_left c.nodes-nodes.result (c.args.fsync.node ∷ []) roomy mid on c.hold_nodes.ensures.holds (roomier_none before roomy same
    c.requires.none).0
    (omega (arith, cells)) in
    let waits = waits_on before mid c.args.fsync
    (goes_again before roomy mid (roomier_goes before roomy same) (works_goes roomy mid on)) c.requires.waits in
    rw (c.shared-shared.ensures, c.nodes-nodes.ensures.count) at (caught_alone (given_by c.shared-shared.result.now) c.shared-shared.result.now
    c.nodes-nodes.result c.args.fsync c.hold_nodes.new.core c.look.result c.look.new.self
    (rw (← c.shared-shared.ensures) at c.nodes-nodes.ensures.table) c.hold_nodes.ensures.work c.hold_nodes.ensures.holds (rw (← c.nodes-nodes.ensures.count)
    at c.requires.within) c.look.ensures
    waits room c.in-Some.cut (sym c.in-Some.ensures))

pub returns-in-None-clause-caught : goal.returns-in-None-clause-caught
returns-in-None-clause-caught g c =
    let before = c.args.core.now in
    let roomy = c.reserve.new.self in
    let mid = c.hold_nodes.new.core in
    rw c.shared-shared.ensures at (lacks_alone (given_by c.shared-shared.result.now) c.shared-shared.result.now c.nodes-nodes.result c.args.fsync
    c.hold_nodes.new.core c.look.result c.look.new.self
    (rw (← c.shared-shared.ensures) at c.nodes-nodes.ensures.table) c.hold_nodes.ensures.work c.hold_nodes.ensures.holds (rw (← c.nodes-nodes.ensures.count)
    at c.requires.within) c.look.ensures
    before c.let_all_go.new.core (goes_again before roomy mid (roomier_goes before roomy c.in_ok-reserve.ensures.same)
    (works_goes roomy mid c.hold_nodes.ensures.on))
    c.let_all_go.ensures.on (record { holds_none = c.let_all_go.ensures.none; none_held = c.let_all_go.ensures.idle }) (sym c.in-None.ensures))
