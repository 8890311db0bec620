use Rattle.std.proofs.Common.{ℕ, not, map, refl, sym, ap, ◌∙◌}
use Rattle.std.specs.List.{find}
use Rattle.std.proofs.lemmas.List.{map-id}
use Rattle.flush_core.specs.Flights.{flight_as, is_opened_in}
use Rattle.flush_core.proofs.Finding.{found_here, none_behind}
use Rattle.flush_core.proofs.flight.first_not_opened.Goals as goal

pub returns-then-not-is_opened : goal.returns-then-not-is_opened
returns-then-not-is_opened c =
    sym
    (found_here (λ (commit : ℕ). not (is_opened_in (map flight_as c.args.flights.now) commit))
    (λ (commit : ℕ). commit) c.args.commits.now c.loop-commit.commit-index _ 0 c.loop-commit-test.true refl
    (ap not (sym c.is_opened.ensures ∙ c.if-not-is_opened.true)))
    ∙ c.loop-commit.invariant
    ∙ ap (find (λ (commit : ℕ). not (is_opened_in (map flight_as c.args.flights.now) commit))) (map-id c.args.commits.now)

pub returns : goal.returns
returns c =
    sym
    (none_behind (λ (commit : ℕ). not (is_opened_in (map flight_as c.args.flights.now) commit))
    (λ (commit : ℕ). commit) c.args.commits.now c.loop-commit.commit-index c.loop-commit-test.false)
    ∙ c.loop-commit.invariant
    ∙ ap (find (λ (commit : ℕ). not (is_opened_in (map flight_as c.args.flights.now) commit))) (map-id c.args.commits.now)
