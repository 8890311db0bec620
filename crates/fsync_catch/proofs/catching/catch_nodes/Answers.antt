use Rattle.std.proofs.Common.{[], List, map, sym, ap, subst}
use Rattle.std.specs.Prelude.{All}
use Rattle.std.specs.List.Sorted.{IsStrictlyIncreasing}
use Rattle.sfs_base.specs.declared.numbers.NodeId.{NodeId}
use Rattle.tree_laws.specs.NameRow.{node_number}
use Rattle.stamp_table.specs.Ascending.{RiseAbove}
use Rattle.fsync_look.specs.Look.{IsBelow, flushed_place}
use Rattle.fsync_catch.proofs.Going.{goes_again, roomier_goes, works_goes, saw_goes, waits_on, places_rise}
use Rattle.fsync_catch.proofs.catching.catch_nodes.Goals as goal

pub hold_nodes-requires-clause-rise : goal.hold_nodes-requires-clause-rise
hold_nodes-requires-clause-rise g c =
    subst (λ (l : List NodeId). RiseAbove [] (map (flushed_place c.nodes-nodes.result) l)) (sym c.as_slice.ensures)
    (places_rise c.nodes-nodes.result c.loop.held.items c.loop.invariant.ascend)

pub look_once-requires-clause-waits : goal.look_once-requires-clause-waits
look_once-requires-clause-waits g c =
    waits_on c.args.core.now c.hold_nodes.new.core c.args.fsync
    (goes_again c.args.core.now c.loop.core c.hold_nodes.new.core c.loop.invariant.on
    (goes_again c.loop.core c.reserve.new.self c.hold_nodes.new.core (roomier_goes c.loop.core c.reserve.new.self c.in_ok-reserve.ensures.same)
    (works_goes c.reserve.new.self c.hold_nodes.new.core c.hold_nodes.ensures.on)))
    c.requires.waits

pub loop-preserved : goal.loop-preserved
loop-preserved g c =
    let nodes = ap (λ l. l.items) c.nodes_of-held.ensures in
    let look = c.in-Ok.ensures.look in
    record {
      work = c.let_all_go.ensures.work;
      on = goes_again c.args.core.now c.loop.core c.let_all_go.new.core c.loop.invariant.on
          (goes_again c.loop.core c.reserve.new.self c.let_all_go.new.core (roomier_goes c.loop.core c.reserve.new.self c.in_ok-reserve.ensures.same)
          (goes_again c.reserve.new.self c.hold_nodes.new.core c.let_all_go.new.core
          (works_goes c.reserve.new.self c.hold_nodes.new.core c.hold_nodes.ensures.on)
          (goes_again c.hold_nodes.new.core c.look_once.new.core c.let_all_go.new.core
          (saw_goes c.hold_nodes.new.core c.look_once.new.core c.look_once.ensures.saw)
          (works_goes c.look_once.new.core c.let_all_go.new.core c.let_all_go.ensures.on))));
      none = (c.let_all_go.ensures.none, c.let_all_go.ensures.idle);
      within = subst (λ (l : List NodeId). All (IsBelow c.nodes-nodes.result) l) (sym nodes) look.within;
      ascend = subst (λ (l : List NodeId). IsStrictlyIncreasing (map node_number l)) (sym nodes) look.concern_is.nodes.ascending;
    }
