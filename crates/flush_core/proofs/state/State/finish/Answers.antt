use Rattle.std.proofs.Common.{map, option_map, Some, refl, sym, ap, ◌∙◌}
use Rattle.std.specs.Prelude.{not, ◌==◌, filter}
use Rattle.cut_laws.specs.Machine.{Flight}
use Rattle.flush_core.specs.Flights.{flight_as, flight_in, flush_as, flush_in, is_opened_in}
use Rattle.flush_core.specs.State.{KeptState}
use Rattle.flush_core.proofs.Ended.{takes_durable}
use Rattle.flush_core.proofs.state.State.finish.Goals as goal

pub returns : goal.returns
returns c =
    let same = c.self-2.view_is ∙ c.raised.ensures.same in
    takes_durable c.args.self.now c.args.commit c.requires (ap (λ (s : KeptState). s.failed) (sym c.self.view_is) ∙ c.in_default.is)
    (flush_as c.in-Some-flush_of.flush) (flight_in (map flight_as c.args.self.now.flights) c.args.commit) refl
    (ap (λ l. option_map flush_in (flight_in (map flight_as l) c.args.commit))
    (ap (λ (s : KeptState). s.flights) (sym c.self.view_is) ∙ sym c.deref.ensures.value)
    ∙ sym c.flush_of.ensures ∙ ap (option_map flush_as) c.in-Some-flush_of.is)
    (ap (λ l. is_opened_in (map flight_as l) c.args.commit) (ap (λ (s : KeptState). s.flights) (sym c.self.view_is) ∙ sym c.deref-2.ensures.value)
    ∙ sym c.is_opened.ensures ∙ c.if-not-is_opened.false)
    c.in_ok-raise.raise c.in_ok-raise.ensures.raised _ c.end_flight.new.flights.items
    (c.end_flight.ensures ∙ ap (λ (s : KeptState). filter (λ (flight : Flight). not (flight.commit == c.args.commit)) (map flight_as s.flights)) same)
    (λ i. record {
      first = (same i).first;
      entries = (same i).entries;
      cut = c.in_ok-raise.raise.cut;
      inodes = Some c.in_ok-raise.raise.inodes;
      flights = c.end_flight.new.flights.items;
      used = (same i).used;
      failed = (same i).failed;
      crashed = (same i).crashed;
    })
