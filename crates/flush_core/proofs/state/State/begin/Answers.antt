use Rattle.std.proofs.Common.{rules, ◌≤◌, ◌<◌, ◌++◌, ◌∷◌, [], length, inr, refl, sym, ap, subst, ◌∙◌, nat_eq}
use Rattle.std.specs.List.{list_any}
use Rattle.flush_core.specs.State.{KeptState}
use Rattle.flush_core.proofs.KeptFlights.{listed_one, not_listed}
use Rattle.flush_core.proofs.Beginning.{used_before, meets, late, takes_begun}
use Rattle.flush_core.proofs.state.State.begin.Goals as goal

pub returns-then-contains : goal.returns-then-contains
returns-then-contains c = (
  inr (used_before c.args.self.now c.args.commit c.args.node c.args.stamp c.requires (ap (λ (s : KeptState). s.failed) (sym c.self.view_is) ∙ c.in_default.is)
      (listed_one c.args.self.now.used c.args.commit
      (ap (λ (s : KeptState). list_any (λ n. nat_eq n c.args.commit) s.used) (sym c.self.view_is)
      ∙ ap (list_any (λ n. nat_eq n c.args.commit)) (sym c.deref.ensures.value) ∙ sym c.contains.ensures.value ∙ c.if-contains.true))),
  refl,
)

pub returns-in-Some-2 : goal.returns-in-Some-2
returns-in-Some-2 c = (
  inr (meets c.args.self.now c.args.commit c.args.node c.args.stamp c.requires (ap (λ (s : KeptState). s.failed) (sym c.self.view_is) ∙ c.in_default.is)
      (not_listed c.args.self.now.used c.args.commit
      (ap (λ (s : KeptState). list_any (λ n. nat_eq n c.args.commit) s.used) (sym c.self.view_is)
      ∙ ap (list_any (λ n. nat_eq n c.args.commit)) (sym c.deref.ensures.value) ∙ sym c.contains.ensures.value ∙ c.if-contains.false))
      c.in_ok-flight.flight c.in_ok-flight.ensures.begins c.in_ok-met.field-0
      (rw (c.deref-2.ensures.value ∙ ap (λ (s : KeptState). s.flights) (c.self-2.view_is ∙ c.flight.ensures.same)) at c.in_ok-met.ensures)
      (record { 0 = c.in-Some-2.met }) c.in-Some-2.is),
  c.flight.ensures.same,
)

pub returns-then-len-stamp : goal.returns-then-len-stamp
returns-then-len-stamp c = (
  inr (late c.args.self.now c.args.commit c.args.node c.args.stamp c.requires (ap (λ (s : KeptState). s.failed) (sym c.self.view_is) ∙ c.in_default.is)
      (not_listed c.args.self.now.used c.args.commit
      (ap (λ (s : KeptState). list_any (λ n. nat_eq n c.args.commit) s.used) (sym c.self.view_is)
      ∙ ap (list_any (λ n. nat_eq n c.args.commit)) (sym c.deref.ensures.value) ∙ sym c.contains.ensures.value ∙ c.if-contains.false))
      c.in_ok-flight.flight c.in_ok-flight.ensures.begins c.in_ok-met.field-0
      (rw (c.deref-2.ensures.value ∙ ap (λ (s : KeptState). s.flights) (c.self-2.view_is ∙ c.flight.ensures.same)) at c.in_ok-met.ensures)
      c.in_default-2.is (subst (λ (s : KeptState). length s.entries < c.args.stamp.0) (c.self-2.view_is ∙ c.flight.ensures.same) (search rules))),
  c.flight.ensures.same,
)

pub returns : goal.returns
returns c =
    let same = c.self-2.view_is ∙ c.flight.ensures.same in
    takes_begun c.args.self.now c.args.commit c.args.node c.args.stamp c.requires (ap (λ (s : KeptState). s.failed) (sym c.self.view_is) ∙ c.in_default.is)
    (not_listed c.args.self.now.used c.args.commit
    (ap (λ (s : KeptState). list_any (λ n. nat_eq n c.args.commit) s.used) (sym c.self.view_is)
    ∙ ap (list_any (λ n. nat_eq n c.args.commit)) (sym c.deref.ensures.value) ∙ sym c.contains.ensures.value ∙ c.if-contains.false))
    c.in_ok-flight.flight c.in_ok-flight.ensures.begins c.in_ok-met.field-0
    (rw (c.deref-2.ensures.value ∙ ap (λ (s : KeptState). s.flights) (c.self-2.view_is ∙ c.flight.ensures.same)) at c.in_ok-met.ensures)
    c.in_default-2.is (subst (λ (s : KeptState). c.args.stamp.0 ≤ length s.entries) (c.self-2.view_is ∙ c.flight.ensures.same) (search rules)) _ (λ i. record {
      first = (same i).first;
      entries = (same i).entries;
      cut = (same i).cut;
      inodes = (same i).inodes;
      flights =
          (c.push_reserved-2.ensures.items
          ∙ ap (λ l. l ++ c.in_ok-flight.flight ∷ []) (c.in_ok-reserve-2.ensures.items ∙ ap (λ (s : KeptState). s.flights) same))
          i;
      used = (c.push_reserved.ensures.items ∙ ap (λ l. l ++ c.args.commit ∷ []) (c.in_ok-reserve.ensures.items ∙ ap (λ (s : KeptState). s.used) same)) i;
      failed = (same i).failed;
      crashed = (same i).crashed;
    })
