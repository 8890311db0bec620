-- A commit that is begun, or is refused.
use Rattle.std.proofs.Common.{◌≡◌, ℕ, ◌<◌, ◌≤◌, true, false, [], ◌∷◌, ◌++◌, length, map, Option, Some, None, refl, sym, ap, ◌∙◌, arith}
use Rattle.std.proofs.lemmas.List.{map-append}
use Rattle.sfs_base.specs.declared.numbers.NodeId.{NodeId}
use Rattle.sfs_base.specs.declared.numbers.Stamp.{Stamp}
use Rattle.cut_laws.specs.declared.event.Event.TheVariants as event
use Rattle.cut_laws.specs.declared.event.Refused.{Refused}
use Rattle.cut_laws.specs.declared.event.Refused.TheVariants as refused
use Rattle.flush_core.specs.declared.flight.InFlight.{InFlight}
use Rattle.flush_core.specs.NodeSets.{has_node}
use Rattle.cut_laws.specs.Rules.{IsOneOf}
use Rattle.cut_laws.specs.Closure.{Flush}
use Rattle.cut_laws.specs.Machine.{IsShared, BeginsFlight, Refuses, reason_place, IsRefused, Accepts}
use Rattle.flush_core.specs.Flights.{flight_as, IsTaken, IsLeastTaken}
use Rattle.flush_core.specs.State.{KeptState, machine_of}
use Rattle.cut_laws.proofs.Basics.{no_true, none_some}

module _ (old : KeptState) (commit : ℕ) (node : NodeId) (stamp : Stamp) (running : old.crashed ≡ false) (going : old.failed ≡ None) where
  abbrev flush : Flush
  flush = record { node = node.0; stamp = stamp.0 }

  first_used : (other : Refused) → Refuses (machine_of old) (event.CutAt commit node stamp) other → 5 ≤ reason_place other
  first_used refused.Crashed holds = no_true (sym running ∙ holds)
  first_used (refused.NotNext want) holds = absurd holds
  first_used (refused.NotLegal reply) holds = absurd holds
  first_used (refused.Stopped failed) holds = none_some (sym going ∙ holds.1)
  first_used (refused.Used other) holds = omega arith
  first_used (refused.Meets met) holds = omega arith
  first_used (refused.Late late) holds = omega arith
  first_used (refused.NotFlying other) holds = none_some holds
  first_used (refused.NotOpened other) holds = no_true holds.0
  first_used (refused.AlreadyOpened other) holds = absurd holds
  first_used refused.NoMemory holds = absurd holds

  pub used_before : IsOneOf old.used commit → IsRefused (machine_of old) (event.CutAt commit node stamp) (refused.Used commit)
  used_before one = record { holds = (one, refl); first = first_used }

  module _ (unused : IsOneOf old.used commit → ⊥) (flight : InFlight) (begins : BeginsFlight (machine_of old) commit flush (flight_as flight))
      (least : Option ℕ) (is_least : IsLeastTaken (map flight_as old.flights) flight.concerned least) where
    -- what flights share with the commit is what they concern of its nodes
    shared : (other : ℕ) → IsShared (machine_of old) flush other → (has_node flight.concerned other ≡ true) × IsTaken (map flight_as old.flights) other
    shared other is = ((begins.concerned other).1 is.concerned, record { flight = is.flight; flies = is.flies; concerned = is.theirs })

    share : (other : ℕ) → has_node flight.concerned other ≡ true → IsTaken (map flight_as old.flights) other → IsShared (machine_of old) flush other
    share other has taken = record { concerned = (begins.concerned other).0 has; flight = taken.flight; flies = taken.flies; theirs = taken.concerned }

    first_meets : (other : Refused) → Refuses (machine_of old) (event.CutAt commit node stamp) other → 6 ≤ reason_place other
    first_meets refused.Crashed holds = no_true (sym running ∙ holds)
    first_meets (refused.NotNext want) holds = absurd holds
    first_meets (refused.NotLegal reply) holds = absurd holds
    first_meets (refused.Stopped failed) holds = none_some (sym going ∙ holds.1)
    first_meets (refused.Used other) holds = absurd (unused holds.0)
    first_meets (refused.Meets met) holds = omega arith
    first_meets (refused.Late late) holds = omega arith
    first_meets (refused.NotFlying other) holds = none_some holds
    first_meets (refused.NotOpened other) holds = no_true holds.0
    first_meets (refused.AlreadyOpened other) holds = absurd holds
    first_meets refused.NoMemory holds = absurd holds

    pub meets : (met : NodeId) → least ≡ Some met.0 → IsRefused (machine_of old) (event.CutAt commit node stamp) (refused.Meets met)
    meets met is = record {
      holds = (
        share met.0 (is_least.is_in met.0 is) (is_least.taken met.0 is),
        λ other common. let both = shared other common in
            is_least.least_of met.0 other is both.0 both.1,
      );
      first = first_meets;
    }

    module _ (none : least ≡ None) where
      apart : (other : ℕ) → IsShared (machine_of old) flush other → ⊥
      apart other common = let both = shared other common in is_least.none other none both.0 both.1

      first_late : (other : Refused) → Refuses (machine_of old) (event.CutAt commit node stamp) other → 7 ≤ reason_place other
      first_late refused.Crashed holds = no_true (sym running ∙ holds)
      first_late (refused.NotNext want) holds = absurd holds
      first_late (refused.NotLegal reply) holds = absurd holds
      first_late (refused.Stopped failed) holds = none_some (sym going ∙ holds.1)
      first_late (refused.Used other) holds = absurd (unused holds.0)
      first_late (refused.Meets met) holds = absurd (apart met.0 holds.0)
      first_late (refused.Late late) holds = omega arith
      first_late (refused.NotFlying other) holds = none_some holds
      first_late (refused.NotOpened other) holds = no_true holds.0
      first_late (refused.AlreadyOpened other) holds = absurd holds
      first_late refused.NoMemory holds = absurd holds

      pub late : length old.entries < stamp.0 → IsRefused (machine_of old) (event.CutAt commit node stamp) (refused.Late stamp)
      late above = record { holds = (above, refl); first = first_late }

      none_holds : stamp.0 ≤ length old.entries → (why : Refused) → Refuses (machine_of old) (event.CutAt commit node stamp) why → ⊥
      none_holds low refused.Crashed holds = no_true (sym running ∙ holds)
      none_holds low (refused.NotNext want) holds = holds
      none_holds low (refused.NotLegal reply) holds = holds
      none_holds low (refused.Stopped failed) holds = none_some (sym going ∙ holds.1)
      none_holds low (refused.Used other) holds = unused holds.0
      none_holds low (refused.Meets met) holds = apart met.0 holds.0
      none_holds low (refused.Late late) holds = not_both low holds.0
        where
          not_both : {a b : ℕ} → a ≤ b → b < a → ⊥
          not_both le lt = omega arith
      none_holds low (refused.NotFlying other) holds = none_some holds
      none_holds low (refused.NotOpened other) holds = no_true holds.0
      none_holds low (refused.AlreadyOpened other) holds = holds
      none_holds low refused.NoMemory holds = holds

      pub takes_begun : stamp.0 ≤ length old.entries → (new : KeptState)
          → new ≡ record old { flights = old.flights ++ flight ∷ []; used = old.used ++ commit ∷ [] }
          → Accepts (machine_of old) (event.CutAt commit node stamp) (machine_of new)
      takes_begun low new is = record {
        free = none_holds low;
        moves = (
          flight_as flight,
          begins,
          ap machine_of is
              ∙ ap (λ l. record (machine_of old) { flights = l; used = old.used ++ commit ∷ [] }) (map-append flight_as old.flights (flight ∷ [])),
        );
      }
