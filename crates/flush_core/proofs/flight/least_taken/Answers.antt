use Rattle.std.proofs.Common.{◌++◌, ◌∷◌, [], map, take, get_or, sym, subst, ◌∙◌}
use Rattle.std.proofs.lemmas.List.{take_more, take_all}
use Rattle.flush_core.specs.Flights.{flight_as}
use Rattle.cut_laws.proofs.Basics.{no_true}
use Rattle.flush_core.proofs.Least.{IsLeastOf, least_passed, least_more, least_in}
use Rattle.flush_core.proofs.flight.least_taken.Goals.{then-is_taken, else-is_taken}
use Rattle.flush_core.proofs.flight.least_taken.Goals as goal

pub loop-node-preserved : goal.loop-node-preserved
loop-node-preserved c =
    subst (λ l. IsLeastOf (map flight_as c.args.flights.now) l c.if-is_taken.least)
    (sym (take_more c.deref-node-items.result.now c.loop-node.node-index 0 c.loop-node-test.true)) (elim c.if-is_taken.branch [
      | then-is_taken w ↦
          subst (λ o. IsLeastOf (map flight_as c.args.flights.now)
          (take c.loop-node.node-index c.deref-node-items.result.now ++ get_or c.deref-node-items.result.now c.loop-node.node-index 0 ∷ []) o)
          (sym (w.least-is ∙ w.lesser-least.ensures))
          (least_more (map flight_as c.args.flights.now) (take c.loop-node.node-index c.deref-node-items.result.now) _
          (c.is_taken.ensures.0 w.if-is_taken.true) c.loop-node.least c.loop-node.invariant)
      | else-is_taken w ↦
          subst (λ o. IsLeastOf (map flight_as c.args.flights.now)
          (take c.loop-node.node-index c.deref-node-items.result.now ++ get_or c.deref-node-items.result.now c.loop-node.node-index 0 ∷ []) o)
          (sym w.least-is)
          (least_passed (map flight_as c.args.flights.now) (take c.loop-node.node-index c.deref-node-items.result.now) _ c.loop-node.least c.loop-node.invariant
          (λ taken. no_true (sym w.if-is_taken.false ∙ c.is_taken.ensures.1 taken)))
    ])

pub returns : goal.returns
returns c = least_in (map flight_as c.args.flights.now) c.args.nodes.now c.in_ok-list.list.items c.loop-node.least c.in_ok-list.ensures
    (rw (take_all c.loop-node.node-index c.deref-node-items.result.now c.loop-node-test.false ∙ c.deref-node-items.ensures.value) at c.loop-node.invariant)
