use Rattle.std.proofs.Common.{◌≡◌, ◌+◌, Bool, List, map, take, sym, subst, ◌∙◌, nat_eq}
use Rattle.std.specs.List.{list_any}
use Rattle.flush_core.specs.declared.raise.Raise.{Raise}
use Rattle.flush_core.specs.NodeSets.{has_node}
use Rattle.cut_laws.specs.Closure.{every_entry, Flush, AreRaised, none, one_more}
use Rattle.flush_core.specs.Flights.{flight_as}
use Rattle.flush_core.specs.State.{kept_flushes}
use Rattle.flush_core.proofs.KeptFlights.{kept_more, kept_same}
use Rattle.flush_core.proofs.state.commits.raised_all.Goals.{then-contains+in_ok-raise, else-contains}
use Rattle.flush_core.proofs.state.commits.raised_all.Goals as goal

pub loop-flight-init : goal.loop-flight-init
loop-flight-init c = λ history past. none

pub loop-flight-preserved : goal.loop-flight-preserved
loop-flight-preserved c = λ history past. elim c.if-contains.branch [
  | then-contains+in_ok-raise w ↦
      subst (λ (r : Raise). AreRaised c.args.first.now history every_entry c.args.from.cut (has_node c.args.from.inodes)
      (kept_flushes (map flight_as (take (c.loop-flight.flight-index + 1) c.args.flights.now)) c.args.kept.now) r.cut (has_node r.inodes))
      (sym w.raise-is)
      (subst
      (λ (l : List Flush). AreRaised c.args.first.now history every_entry c.args.from.cut (has_node c.args.from.inodes) l w.in_ok-raise.raise.cut
      (has_node w.in_ok-raise.raise.inodes))
      (sym
      (kept_more c.args.flights.now c.args.kept.now c.loop-flight.flight-index c.flight-item.result c.loop-flight-test.true c.flight-item.is
      (in_list w.if-contains.true)))
      (one_more
      (kept_flushes (map flight_as (take c.loop-flight.flight-index c.args.flights.now)) c.args.kept.now) _ c.loop-flight.raise.cut w.in_ok-raise.raise.cut
      (has_node c.loop-flight.raise.inodes) (has_node w.in_ok-raise.raise.inodes) (c.loop-flight.invariant history past)
      (w.in_ok-raise.ensures.raised history past) (w.in_ok-raise.ensures.inodes history c.requires past)))
  | else-contains w ↦
      subst (λ (r : Raise). AreRaised c.args.first.now history every_entry c.args.from.cut (has_node c.args.from.inodes)
      (kept_flushes (map flight_as (take (c.loop-flight.flight-index + 1) c.args.flights.now)) c.args.kept.now) r.cut (has_node r.inodes))
      (sym w.raise-is)
      (subst
      (λ (l : List Flush). AreRaised c.args.first.now history every_entry c.args.from.cut (has_node c.args.from.inodes) l c.loop-flight.raise.cut
      (has_node c.loop-flight.raise.inodes))
      (sym
      (kept_same c.args.flights.now c.args.kept.now c.loop-flight.flight-index c.flight-item.result c.loop-flight-test.true c.flight-item.is
      (in_list w.if-contains.false)))
      (c.loop-flight.invariant history past))
]
  where
    in_list : {b : Bool} → c.contains.result ≡ b → list_any (λ commit. nat_eq commit c.flight-item.result.commit) c.args.kept.now ≡ b
    in_list is = sym c.contains.ensures.value ∙ is
