use Rattle.std.proofs.Common.{◌≡◌, ℕ, not, map, drop}
use Rattle.std.specs.List.{find}
use Rattle.flush_core.specs.Flights.{flight_as, is_opened_in}
use Rattle.flush_core.proofs.flight.first_not_opened.Given as goal

abbrev pub invariant-loop-commit : goal.invariant-loop-commit
invariant-loop-commit l =
    find (λ commit. not (is_opened_in (map flight_as l.flights) commit)) (map (λ (c : ℕ). c) (drop l.commit-index l.commits))
    ≡ find (λ commit. not (is_opened_in (map flight_as l.flights) commit)) (map (λ (c : ℕ). c) l.commits)
