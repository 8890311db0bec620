-- A commit that becomes durable, and a run that ends.
use Rattle.std.proofs.Common.{◌≡◌, ℕ, Bool, true, false, cond, not, ◌≤◌, arith, List, [], ◌∷◌, map, Option, Some, None, option_map, is_some, refl, sym, ap, ◌∙◌}
use Rattle.std.specs.Prelude.{filter, ◌==◌}
use Rattle.std.specs.List.{find}
use Rattle.cut_laws.specs.declared.event.Event.{Event}
use Rattle.cut_laws.specs.declared.event.Event.TheVariants as event
use Rattle.cut_laws.specs.declared.event.Refused.{Refused}
use Rattle.cut_laws.specs.declared.event.Refused.TheVariants as refused
use Rattle.flush_core.specs.declared.flight.InFlight.{InFlight}
use Rattle.flush_core.specs.declared.raise.Raise.{Raise}
use Rattle.flush_core.specs.NodeSets.{has_node}
use Rattle.cut_laws.specs.Closure.{every_entry, Flush, AreRaised, none, one_more}
use Rattle.cut_laws.specs.Machine.{Flight, Refuses, reason_place, IsRefused, Accepts, flight_of, is_flying, is_opened}
use Rattle.flush_core.specs.Flights.{flight_as, flush_in}
use Rattle.flush_core.specs.State.{KeptState, machine_of, inodes_of, IsRaisedTo, kept_flushes}
use Rattle.cut_laws.proofs.Basics.{no_true, none_some}

-- a kept state with another cut, other inodes and other flights
abbrev raised_to : KeptState → Raise → KeptState
raised_to old raise = record old { cut = raise.cut; inodes = Some raise.inodes }

module _ (old : KeptState) (commit : ℕ) (running : old.crashed ≡ false) (going : old.failed ≡ None) where
  -- none of one commit passes a test that it fails
  not_found : (test : ℕ → Bool) (n : ℕ) → test commit ≡ true → find (λ named. not (test named)) (commit ∷ []) ≡ Some n → ⊥
  not_found test n passes found = none_some (sym (ap (λ b. cond (not b) (Some commit) None) passes) ∙ found)

  none_holds : is_flying (machine_of old) commit ≡ true → is_opened (machine_of old) commit ≡ true → (why : Refused)
      → Refuses (machine_of old) (event.Durable commit) why → ⊥
  none_holds flies opened refused.Crashed holds = no_true (sym running ∙ holds)
  none_holds flies opened (refused.NotNext want) holds = holds
  none_holds flies opened (refused.NotLegal reply) holds = holds
  none_holds flies opened (refused.Stopped failed) holds = none_some (sym going ∙ holds.1)
  none_holds flies opened (refused.Used other) holds = holds
  none_holds flies opened (refused.Meets met) holds = holds
  none_holds flies opened (refused.Late late) holds = holds
  none_holds flies opened (refused.NotFlying other) holds = not_found (is_flying (machine_of old)) other flies holds
  none_holds flies opened (refused.NotOpened other) holds = not_found (is_opened (machine_of old)) other opened holds.1
  none_holds flies opened (refused.AlreadyOpened other) holds = holds
  none_holds flies opened refused.NoMemory holds = holds

  pub takes_durable : (flush : Flush) (found : Option Flight) → flight_of (machine_of old) commit ≡ found → option_map flush_in found ≡ Some flush
      → is_opened (machine_of old) commit ≡ true → (raise : Raise) → IsRaisedTo old flush raise
      → (new : KeptState) (flights : List InFlight)
      → map flight_as flights ≡ filter (λ (flight : Flight). not (flight.commit == commit)) (map flight_as old.flights)
      → new ≡ record (raised_to old raise) { flights = flights } → Accepts (machine_of old) (event.Durable commit) (machine_of new)
  takes_durable flush None is mapped opened raise raised new flights left same = no_flush mapped
    where
      no_flush : {P : Type 0} → None ≡ Some flush → P
      no_flush e = cc
  takes_durable flush (Some flight) is mapped opened raise raised new flights left same = record {
    free = none_holds (ap is_some is) opened;
    moves = (
      flight,
      machine_of (raised_to old raise),
      is,
      record { raised = rw (same_flush (sym mapped)) at one_raise; others = refl },
      ap machine_of same ∙ ap (λ l. record (machine_of (raised_to old raise)) { flights = l }) left,
    );
  }
    where
      same_flush : Some flush ≡ Some flight.flush → flush ≡ flight.flush
      same_flush e = cc

      one_raise : AreRaised old.first old.entries every_entry old.cut (inodes_of old.first old.inodes) (flush ∷ []) raise.cut (has_node raise.inodes)
      one_raise = one_more [] flush old.cut raise.cut (inodes_of old.first old.inodes) (has_node raise.inodes) none raised.raised raised.inodes

module _ (old : KeptState) (kept : List ℕ) (spare : ℕ) (running : old.crashed ≡ false) where
  abbrev e : Event
  e = event.Crash (record { items = kept; spare = spare })

  first_not_flying : (other : Refused) → Refuses (machine_of old) e other → 8 ≤ reason_place other
  first_not_flying refused.Crashed holds = no_true (sym running ∙ holds)
  first_not_flying (refused.NotNext want) holds = absurd holds
  first_not_flying (refused.NotLegal reply) holds = absurd holds
  first_not_flying (refused.Stopped failed) holds = no_true holds.0
  first_not_flying (refused.Used other) holds = absurd holds
  first_not_flying (refused.Meets met) holds = absurd holds
  first_not_flying (refused.Late late) holds = absurd holds
  first_not_flying (refused.NotFlying other) holds = omega arith
  first_not_flying (refused.NotOpened other) holds = omega arith
  first_not_flying (refused.AlreadyOpened other) holds = omega arith
  first_not_flying refused.NoMemory holds = omega arith

  pub keeps_not_flying : (commit : ℕ) → find (λ named. not (is_flying (machine_of old) named)) kept ≡ Some commit
      → IsRefused (machine_of old) e (refused.NotFlying commit)
  keeps_not_flying commit found = record { holds = found; first = first_not_flying }

  module _ (flying : find (λ named. not (is_flying (machine_of old) named)) kept ≡ None) where
    first_not_opened : (other : Refused) → Refuses (machine_of old) e other → 9 ≤ reason_place other
    first_not_opened refused.Crashed holds = no_true (sym running ∙ holds)
    first_not_opened (refused.NotNext want) holds = absurd holds
    first_not_opened (refused.NotLegal reply) holds = absurd holds
    first_not_opened (refused.Stopped failed) holds = no_true holds.0
    first_not_opened (refused.Used other) holds = absurd holds
    first_not_opened (refused.Meets met) holds = absurd holds
    first_not_opened (refused.Late late) holds = absurd holds
    first_not_opened (refused.NotFlying other) holds = none_some (sym flying ∙ holds)
    first_not_opened (refused.NotOpened other) holds = omega arith
    first_not_opened (refused.AlreadyOpened other) holds = omega arith
    first_not_opened refused.NoMemory holds = omega arith

    pub keeps_not_opened : (commit : ℕ) → find (λ named. not (is_opened (machine_of old) named)) kept ≡ Some commit
        → IsRefused (machine_of old) e (refused.NotOpened commit)
    keeps_not_opened commit found = record { holds = (refl, found); first = first_not_opened }

    module _ (opened : find (λ named. not (is_opened (machine_of old) named)) kept ≡ None) where
      none_refuses : (why : Refused) → Refuses (machine_of old) e why → ⊥
      none_refuses refused.Crashed holds = no_true (sym running ∙ holds)
      none_refuses (refused.NotNext want) holds = holds
      none_refuses (refused.NotLegal reply) holds = holds
      none_refuses (refused.Stopped failed) holds = no_true holds.0
      none_refuses (refused.Used other) holds = holds
      none_refuses (refused.Meets met) holds = holds
      none_refuses (refused.Late late) holds = holds
      none_refuses (refused.NotFlying other) holds = none_some (sym flying ∙ holds)
      none_refuses (refused.NotOpened other) holds = none_some (sym opened ∙ holds.1)
      none_refuses (refused.AlreadyOpened other) holds = holds
      none_refuses refused.NoMemory holds = holds

      pub takes_crash : (raise : Raise)
          → AreRaised old.first old.entries every_entry old.cut (inodes_of old.first old.inodes) (kept_flushes (map flight_as old.flights) kept) raise.cut
          (has_node raise.inodes)
          → (new : KeptState) → new ≡ record (raised_to old raise) { flights = []; crashed = true } → Accepts (machine_of old) e (machine_of new)
      takes_crash raise raised new same = record {
        free = none_refuses;
        moves = (machine_of (raised_to old raise), record { raised = raised; others = refl }, ap machine_of same);
      }
