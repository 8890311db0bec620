use Rattle.std.proofs.Common.{true, not, map, Some, inr, refl, sym, ap, ◌∙◌}
use Rattle.std.specs.List.{find}
use Rattle.flush_core.specs.Flights.{flight_as, is_flying_in, is_opened_in}
use Rattle.flush_core.specs.State.{KeptState}
use Rattle.flush_core.proofs.Ended.{keeps_not_flying, keeps_not_opened, takes_crash}
use Rattle.flush_core.proofs.state.State.crash.Goals as goal

pub returns-in-Some : goal.returns-in-Some
returns-in-Some c = (
  inr (keeps_not_flying c.args.self.now c.args.kept.now.items c.args.kept.now.spare c.requires c.in-Some.commit
      (ap (λ (s : KeptState). find (λ named. not (is_flying_in (map flight_as s.flights) named)) c.args.kept.now.items) (sym c.self.view_is)
      ∙ ap (λ l. find (λ named. not (is_flying_in (map flight_as l) named)) c.args.kept.now.items) (sym c.deref.ensures.value)
      ∙ ap (find (λ named. not (is_flying_in (map flight_as c.deref.result.now) named))) (sym c.as_slice.ensures) ∙ sym c.first_not_flying.ensures
      ∙ c.in-Some.is)),
  refl,
)

pub returns-in-Some-first_not_opened : goal.returns-in-Some-first_not_opened
returns-in-Some-first_not_opened c = (
  inr (keeps_not_opened c.args.self.now c.args.kept.now.items c.args.kept.now.spare c.requires
      (ap (λ (s : KeptState). find (λ named. not (is_flying_in (map flight_as s.flights) named)) c.args.kept.now.items) (sym c.self.view_is)
      ∙ ap (λ l. find (λ named. not (is_flying_in (map flight_as l) named)) c.args.kept.now.items) (sym c.deref.ensures.value)
      ∙ ap (find (λ named. not (is_flying_in (map flight_as c.deref.result.now) named))) (sym c.as_slice.ensures) ∙ sym c.first_not_flying.ensures
      ∙ c.in_default.is)
      c.in-Some-first_not_opened.commit
      (ap (λ (s : KeptState). find (λ named. not (is_opened_in (map flight_as s.flights) named)) c.args.kept.now.items) (sym c.self.view_is)
      ∙ ap (λ l. find (λ named. not (is_opened_in (map flight_as l) named)) c.args.kept.now.items) (sym c.deref-2.ensures.value)
      ∙ ap (find (λ named. not (is_opened_in (map flight_as c.deref-2.result.now) named))) (sym c.as_slice-2.ensures) ∙ sym c.first_not_opened.ensures
      ∙ c.in-Some-first_not_opened.is)),
  refl,
)

pub returns : goal.returns
returns c =
    let same = c.self-2.view_is ∙ c.raised_by.ensures.same in
    takes_crash c.args.self.now c.args.kept.now.items c.args.kept.now.spare c.requires
    (ap (λ (s : KeptState). find (λ named. not (is_flying_in (map flight_as s.flights) named)) c.args.kept.now.items) (sym c.self.view_is)
    ∙ ap (λ l. find (λ named. not (is_flying_in (map flight_as l) named)) c.args.kept.now.items) (sym c.deref.ensures.value)
    ∙ ap (find (λ named. not (is_flying_in (map flight_as c.deref.result.now) named))) (sym c.as_slice.ensures) ∙ sym c.first_not_flying.ensures
    ∙ c.in_default.is)
    (ap (λ (s : KeptState). find (λ named. not (is_opened_in (map flight_as s.flights) named)) c.args.kept.now.items) (sym c.self.view_is)
    ∙ ap (λ l. find (λ named. not (is_opened_in (map flight_as l) named)) c.args.kept.now.items) (sym c.deref-2.ensures.value)
    ∙ ap (find (λ named. not (is_opened_in (map flight_as c.deref-2.result.now) named))) (sym c.as_slice-2.ensures) ∙ sym c.first_not_opened.ensures
    ∙ c.in_default-first_not_opened.is)
    c.in_ok-raise.raise
    (rw c.as_slice-3.ensures at c.in_ok-raise.ensures.raised) _ (λ i. record {
      first = (same i).first;
      entries = (same i).entries;
      cut = c.in_ok-raise.raise.cut;
      inodes = Some c.in_ok-raise.raise.inodes;
      flights = c.new.ensures.items i;
      used = (same i).used;
      failed = (same i).failed;
      crashed = true;
    })
