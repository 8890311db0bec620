use Rattle.std.proofs.Common.{◌≡◌, ◌≤◌, ◌+◌, ℕ, List, [], ◌∷◌, ◌++◌, length, map, take, drop, set, refl, sym, ap, subst, ◌∙◌, arith}
use Rattle.std.proofs.lemmas.List.{append-nil, drop_all, take_all}
use Rattle.flush_core.specs.declared.flight.InFlight.{InFlight}
use Rattle.cut_laws.specs.Machine.{opened_for}
use Rattle.flush_core.specs.Flights.{flight_as, kept_opened}
use Rattle.flush_core.proofs.InPlace.{IsChanged, changed_more, changed_all}
use Rattle.flush_core.proofs.flight.mark_opened.Goals as goal
use Rattle.sfs_base.proofs.BasicNumbers.{le_itself}

pub loop-flight-preserved : goal.loop-flight-preserved
loop-flight-preserved c =
    subst (λ flight. IsChanged (kept_opened c.args.commit) c.deref_mut-flight-items.result.now (c.loop-flight.flight-index + 1)
    (set c.loop-flight.flight-items c.loop-flight.flight-index flight))
    (ap (kept_opened c.args.commit) c.flight-item.is ∙ sym c.open_for.ensures)
    (changed_more
    (kept_opened c.args.commit) c.deref_mut-flight-items.result.now c.loop-flight.flight-items c.loop-flight.flight-index c.flight-item.result
    c.loop-flight.invariant
    (rw c.loop-flight.auto.flight-items c.loop-flight-test.true) c.flight-item.is)

-- a whole list put back is that list
put_back : {X : Type 0} (n : ℕ) (xs old : List X) → length old ≤ n → length xs ≡ length old → take n (xs ++ drop (length xs) old) ≡ xs
put_back n xs old most same =
    ap (λ l. take n (xs ++ l)) (drop_all (length xs) old (subst (λ k. k ≤ length xs) same (le_itself (length xs)))) ∙ ap (take n) (append-nil xs)
    ∙ take_all n xs (subst (λ k. k ≤ n) (sym same) most)

whole : {a b n : ℕ} → a ≡ b → a ≡ n → b ≤ n
whole same long = omega arith

-- opening a flight as it is kept opens it
opened_as : (commit : ℕ) (flights : List InFlight) → map flight_as (map (kept_opened commit) flights) ≡ map (opened_for commit) (map flight_as flights)
opened_as commit [] = refl
opened_as commit (flight ∷ flights) = ap (λ l. opened_for commit (flight_as flight) ∷ l) (opened_as commit flights)

pub returns : goal.returns
returns c =
    ap (map flight_as)
    (put_back c.args.flights.now.len c.loop-flight.flight-items c.args.flights.now.items
    (whole (ap length c.deref_mut-flight-items.ensures.value) c.deref_mut-flight-items.ensures.len)
    (c.loop-flight.auto.flight-items ∙ ap length c.deref_mut-flight-items.ensures.value)
    ∙ changed_all (kept_opened c.args.commit) c.deref_mut-flight-items.result.now c.loop-flight.flight-items c.loop-flight.flight-index c.loop-flight.invariant
    (rw c.loop-flight.auto.flight-items c.loop-flight-test.false)
    ∙ ap (map (kept_opened c.args.commit)) c.deref_mut-flight-items.ensures.value)
    ∙ opened_as c.args.commit c.args.flights.now.items
