use Rattle.std.proofs.Common.{◌≡◌, ℕ, true, false, not, map, List, [], ◌∷◌, cond, refl, ap, ◌∙◌}
use Rattle.std.specs.Prelude.{filter, ◌==◌}
use Rattle.std.proofs.lemmas.Fn.{filter_same}
use Rattle.std.proofs.iter.Serving.{serving}
use Rattle.flush_core.specs.declared.flight.InFlight.{InFlight}
use Rattle.cut_laws.specs.Machine.{Flight}
use Rattle.flush_core.specs.Flights.{flight_as}
use Rattle.flush_core.proofs.flight.end_flight.Goals as goal

-- what is looked at in a flight is the same as it is kept
filter_kept : (commit : ℕ) (flights : List InFlight)
    → map flight_as (filter (λ (flight : InFlight). not (flight.commit == commit)) flights)
    ≡ filter (λ (flight : Flight). not (flight.commit == commit)) (map flight_as flights)
filter_kept commit [] = refl
filter_kept commit (flight ∷ flights) =
    elim (not (flight.commit == commit)) as (λ b. map flight_as
    (cond b (flight ∷ filter (λ (f : InFlight). not (f.commit == commit)) flights) (filter (λ (f : InFlight). not (f.commit == commit)) flights))
    ≡ cond b (flight_as flight ∷ filter (λ (f : Flight). not (f.commit == commit)) (map flight_as flights))
    (filter (λ (f : Flight). not (f.commit == commit)) (map flight_as flights))) [
      | true ↦ ap (λ l. flight_as flight ∷ l) (filter_kept commit flights)
      | false ↦ filter_kept commit flights
    ]

pub returns : goal.returns
returns c =
    ap (map flight_as)
    (filter_same _ (λ (flight : InFlight). not (flight.commit == c.args.commit)) _
    (λ x b after called. grind serving) c.args.flights.now.items c.retain.new.self.items c.retain.ensures.filtered)
    ∙ filter_kept c.args.commit c.args.flights.now.items
