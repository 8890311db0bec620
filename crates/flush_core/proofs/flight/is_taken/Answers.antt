use Rattle.std.proofs.Common.{◌≡◌, true, map, refl, sym, ap, ◌∙◌}
use Rattle.flush_core.specs.declared.flight.InFlight.{InFlight}
use Rattle.flush_core.specs.NodeSets.{has_node}
use Rattle.cut_laws.specs.Machine.{Flight}
use Rattle.flush_core.specs.Flights.{flight_as, IsTaken}
use Rattle.cut_laws.proofs.Basics.{no_true}
use Rattle.cut_laws.proofs.Listed.{one_at, more_hold, all_hold, from_map, to_map}
use Rattle.flush_core.proofs.flight.is_taken.Goals as goal

pub loop-flight-init : goal.loop-flight-init
loop-flight-init c = λ flight one. absurd one

pub returns-then-has : goal.returns-then-has
returns-then-has c = (
  λ _. record {
    flight = flight_as c.flight-item.result;
    flies =
        to_map flight_as c.args.flights.now c.flight-item.result
        (one_at c.args.flights.now c.loop-flight.flight-index c.flight-item.result c.flight-item.result c.loop-flight-test.true c.flight-item.is);
    concerned = sym c.has.ensures ∙ c.if-has.true;
  },
  λ _. refl,
)

pub loop-flight-preserved : goal.loop-flight-preserved
loop-flight-preserved c =
    more_hold
    (λ (flight : InFlight). has_node flight.concerned c.args.node ≡ true → ⊥) c.args.flights.now c.loop-flight.flight-index c.flight-item.result
    c.flight-item.result c.loop-flight-test.true c.flight-item.is c.loop-flight.invariant
    (λ has. no_true (sym c.if-has.false ∙ c.has.ensures ∙ has))

pub returns : goal.returns
returns c = (λ e. no_true e, λ taken. absurd (none taken))
  where
    none : IsTaken (map flight_as c.args.flights.now) c.args.node → ⊥
    none taken =
        let found = from_map flight_as c.args.flights.now taken.flight taken.flies in
        all_hold
        (λ (flight : InFlight). has_node flight.concerned c.args.node ≡ true → ⊥) c.args.flights.now c.loop-flight.flight-index c.loop-flight-test.false
        c.loop-flight.invariant found.0 found.1
        (ap (λ (flight : Flight). flight.concerned c.args.node) found.2 ∙ taken.concerned)
