-- Flights whose gates are opened, that land, and of which their cores learn, go on to fit.
use Rattle.std.specs.Prelude.{option_map}
use Rattle.std.proofs.Common.{◌≡◌, ◌≢◌, ◌∙◌, ℕ, Bool, true, false, Option, Some, None, inl, inr, refl, sym, ap, subst}
use Rattle.sfs_base.proofs.BasicOptions.{some_same}
use Rattle.sfs_base.proofs.BasicTruth.{not_both}
use Rattle.sfs_image.specs.Super.{Layout}
use Rattle.tree_laws.specs.declared.turns.Turn.{Turn}
use Rattle.tree_laws.specs.declared.turns.TurnAct.TheVariants as act
use Rattle.merge_laws.proofs.Blocks.{same_or_not}
use Rattle.slot_laws.specs.Slots.{open_gate, may_be_open, known_gated, SlotWork, knowing, settled_work, Slots, with_at, changed_slot}
use Rattle.slot_laws.specs.Labels.{owner, SlotFlight, opened_flight}
use Rattle.slot_laws.specs.Rules.{IsTurnBy}
use Rattle.slot_laws.specs.Fits.{IsFlying, Landed, FlightFits, IsAloftBy, FlightsFit}
use Rattle.slot_laws.proofs.Basics.{at_here, at_same, at_other, none_there, mapped_some}
use Rattle.slot_laws.proofs.Flying.{flies_beside, flight_owner}

module _ (layout : Layout) (slots : Slots) (waits : ℕ → Option Turn) (flights : ℕ → Option SlotFlight) (fits : FlightsFit layout slots waits flights) where
  -- the gate of a slot is written open
  module _ (core k : ℕ) (done : Bool) (work : SlotWork) (there : slots k ≡ Some work) (aloft : work.settled ≡ false) (own : owner layout k ≡ core) where
    was_aloft : IsAloftBy layout slots waits flights k
    was_aloft = fits.aloft k work there aloft

    -- the gate may be open then, whether the write answered Ok or not
    may_open : may_be_open (known_gated done open_gate work.known).gate_read ≡ true
    may_open = by done
      where
        by : (b : Bool) → may_be_open (known_gated b open_gate work.known).gate_read ≡ true
        by true = refl
        by false = refl

    opened_flies : IsFlying (changed_slot slots k (knowing (known_gated done open_gate))) waits core (opened_flight was_aloft.flight)
    opened_flies =
        let same : was_aloft.flies.work ≡ work = some_same (sym was_aloft.flies.there ∙ ap slots was_aloft.slot_is ∙ there) in
        record {
          work = knowing (known_gated done open_gate) work;
          there = at_same slots k (option_map (knowing (known_gated done open_gate)) (slots k)) was_aloft.flight.slot was_aloft.slot_is
              ∙ ap (option_map (knowing (known_gated done open_gate))) there;
          commit = ap (λ (w : SlotWork). w.commit) (sym same) ∙ was_aloft.flies.commit;
          flush = ap (λ (w : SlotWork). w.flush) (sym same) ∙ was_aloft.flies.flush;
          aloft = aloft;
          left = refl;
          read = may_open;
          none = ap waits (sym own) ∙ was_aloft.flies.none;
        }

    core_flies : flights core ≡ Some was_aloft.flight
    core_flies = ap flights (sym own) ∙ was_aloft.flies_is

    opened_there : with_at flights core (option_map opened_flight (flights core)) core ≡ Some (opened_flight was_aloft.flight)
    opened_there = at_here flights core (option_map opened_flight (flights core)) ∙ ap (option_map opened_flight) core_flies

    pub opened_fit : FlightsFit layout (changed_slot slots k (knowing (known_gated done open_gate))) waits (with_at flights core
        (option_map opened_flight (flights core)))
    opened_fit = record {
      each = λ other flight is. elim (same_or_not other core) [
        | inl same ↦
            let e = some_same (sym (ap (with_at flights core (option_map opened_flight (flights core))) same ∙ opened_there) ∙ is) in
            subst (λ (f : SlotFlight). FlightFits layout (changed_slot slots k (knowing (known_gated done open_gate))) waits other f) e
            (subst (λ (c : ℕ). FlightFits layout (changed_slot slots k (knowing (known_gated done open_gate))) waits c
            (opened_flight was_aloft.flight)) (sym same)
            (record { own = ap (owner layout) was_aloft.slot_is ∙ own; is = inl opened_flies }))
        | inr apart ↦
            let flying = sym (at_other flights core (option_map opened_flight (flights core)) other apart) ∙ is in
            let was = fits.each other flight flying in
            record {
              own = was.own;
              is = elim was.is [
                | inl flies ↦
                    inl
                    (flies_beside layout slots waits flights fits k (option_map (knowing (known_gated done open_gate)) (slots k)) other flight
                    (λ same. apart (sym (flight_owner layout slots waits flights fits k other flight flying same) ∙ own)) flies)
                | inr landed ↦ inr landed
              ];
            }
      ];
      aloft = λ j other is still. elim (same_or_not j k) [
        | inl same ↦ record {
          flight = opened_flight was_aloft.flight;
          flies_is = ap (with_at flights core (option_map opened_flight (flights core))) (ap (owner layout) same ∙ own) ∙ opened_there;
          slot_is = was_aloft.slot_is ∙ sym same;
          flies = subst (λ (c : ℕ). IsFlying (changed_slot slots k (knowing (known_gated done open_gate))) waits c (opened_flight was_aloft.flight))
              (sym (ap (owner layout) same ∙ own)) opened_flies;
        }
        | inr apart ↦
            let was = fits.aloft j other (sym (at_other slots k (option_map (knowing (known_gated done open_gate)) (slots k)) j apart) ∙ is) still in
            let away : owner layout j ≢ core = λ same.
            apart
            (sym was.slot_is
            ∙ ap (λ (f : SlotFlight). f.slot) (some_same (sym was.flies_is ∙ ap flights same ∙ core_flies)) ∙ was_aloft.slot_is) in
            record {
              flight = was.flight;
              flies_is = at_other flights core (option_map opened_flight (flights core)) (owner layout j) away ∙ was.flies_is;
              slot_is = was.slot_is;
              flies = flies_beside layout slots waits flights fits k (option_map (knowing (known_gated done open_gate)) (slots k)) (owner layout j) was.flight
                  (λ same. apart (sym was.slot_is ∙ same)) was.flies;
            }
      ];
      idle = λ other none. elim (same_or_not other core) [
        | inl same ↦ none_there (sym none ∙ ap (with_at flights core (option_map opened_flight (flights core))) same ∙ opened_there)
        | inr apart ↦ fits.idle other (sym (at_other flights core (option_map opened_flight (flights core)) other apart) ∙ none)
      ];
    }

    -- no turn waits for its core
    pub none_waits : waits core ≡ None
    none_waits = ap waits (sym own) ∙ was_aloft.flies.none

  -- a commit is durable, and its turn waits for its owner
  module _ (k : ℕ) (turn : Turn) (work : SlotWork) (there : slots k ≡ Some work) (aloft : work.settled ≡ false)
      (opened : work.known.gate_left ≡ open_gate) (is : IsTurnBy turn act.Durable (owner layout k) work.commit work.flush) where
    aloft_before : IsAloftBy layout slots waits flights k
    aloft_before = fits.aloft k work there aloft

    pub owner_waits : waits (owner layout k) ≡ None
    owner_waits = aloft_before.flies.none

    landed : Landed (with_at waits (owner layout k) (Some turn)) (owner layout k) aloft_before.flight
    landed =
        let same : aloft_before.flies.work ≡ work = some_same (sym aloft_before.flies.there ∙ ap slots aloft_before.slot_is ∙ there) in
        record {
          turn = turn;
          waits_is = at_here waits (owner layout k) (Some turn);
          turn_is = record {
            did_is = is.did_is;
            core_is = is.core_is;
            commit_is = is.commit_is ∙ ap (λ (w : SlotWork). w.commit) (sym same) ∙ aloft_before.flies.commit;
            flush_is = is.flush_is ∙ ap (λ (w : SlotWork). w.flush) (sym same) ∙ aloft_before.flies.flush;
          };
          opened = sym aloft_before.flies.left ∙ ap (λ (w : SlotWork). may_be_open w.known.gate_left) same ∙ ap may_be_open opened;
        }

    -- another flight is in another slot, of another owner
    settled_beside : (other : ℕ) (flight : SlotFlight) → other ≢ owner layout k → flights other ≡ Some flight → IsFlying slots waits other flight
        → IsFlying (changed_slot slots k settled_work) (with_at waits (owner layout k) (Some turn)) other flight
    settled_beside other flight apart flying flies =
        let beside = flies_beside layout slots waits flights fits k (option_map settled_work (slots k)) other flight
        (λ same. apart (sym (flight_owner layout slots waits flights fits k other flight flying same))) flies in
        record {
          work = beside.work;
          there = beside.there;
          commit = beside.commit;
          flush = beside.flush;
          aloft = beside.aloft;
          left = beside.left;
          read = beside.read;
          none = at_other waits (owner layout k) (Some turn) other apart ∙ beside.none;
        }

    pub settled_fit : FlightsFit layout (changed_slot slots k settled_work) (with_at waits (owner layout k) (Some turn)) flights
    settled_fit = record {
      each = λ other flight flying. elim (same_or_not other (owner layout k)) [
        | inl same ↦
            let e = some_same (sym aloft_before.flies_is ∙ ap flights (sym same) ∙ flying) in
            subst (λ (f : SlotFlight). FlightFits layout (changed_slot slots k settled_work) (with_at waits (owner layout k) (Some turn)) other f) e
            (subst (λ (c : ℕ). FlightFits layout (changed_slot slots k settled_work) (with_at waits (owner layout k)
            (Some turn)) c aloft_before.flight) (sym same)
            (record { own = ap (owner layout) aloft_before.slot_is; is = inr landed }))
        | inr apart ↦
            let was = fits.each other flight flying in
            record {
              own = was.own;
              is = elim was.is [
                | inl flies ↦ inl (settled_beside other flight apart flying flies)
                | inr lies ↦ inr (record {
                  turn = lies.turn;
                  waits_is = at_other waits (owner layout k) (Some turn) other apart ∙ lies.waits_is;
                  turn_is = lies.turn_is;
                  opened = lies.opened;
                })
              ];
            }
      ];
      aloft = λ j other still flying. elim (same_or_not j k) [
        | inl same ↦
            let was = mapped_some settled_work (slots k) other (sym (at_same slots k (option_map settled_work (slots k)) j same) ∙ still) in
            absurd (not_both (ap (λ (w : SlotWork). w.settled) (sym was.2)) flying)
        | inr apart ↦
            let was = fits.aloft j other (sym (at_other slots k (option_map settled_work (slots k)) j apart) ∙ still) flying in
            let away : owner layout j ≢ owner layout k = λ same.
            apart
            (sym was.slot_is
            ∙ ap (λ (f : SlotFlight). f.slot) (some_same (sym was.flies_is ∙ ap flights same ∙ aloft_before.flies_is)) ∙ aloft_before.slot_is) in
            record {
              flight = was.flight;
              flies_is = was.flies_is;
              slot_is = was.slot_is;
              flies = settled_beside (owner layout j) was.flight away was.flies_is was.flies;
            }
      ];
      idle = λ other none. elim (same_or_not other (owner layout k)) [
        | inl same ↦ none_there (sym none ∙ ap flights same ∙ aloft_before.flies_is)
        | inr apart ↦ at_other waits (owner layout k) (Some turn) other apart ∙ fits.idle other none
      ];
    }

  -- a core has learned of the turn that waited for it
  pub learned_fit : (core : ℕ) (turn : Turn) → waits core ≡ Some turn → FlightsFit layout slots (with_at waits core None) (with_at flights core None)
  learned_fit core turn waited = record {
    each = λ other flight flying. elim (same_or_not other core) [
      | inl same ↦ none_there (sym (at_same flights core None other same) ∙ flying)
      | inr apart ↦
          let was = fits.each other flight (sym (at_other flights core None other apart) ∙ flying) in
          record {
            own = was.own;
            is = elim was.is [
              | inl flies ↦ inl (flies_learned core other flight apart flies)
              | inr lies ↦ inr (record {
                turn = lies.turn;
                waits_is = at_other waits core None other apart ∙ lies.waits_is;
                turn_is = lies.turn_is;
                opened = lies.opened;
              })
            ];
          }
    ];
    aloft = λ j work there aloft.
        let was = fits.aloft j work there aloft in
        let away : owner layout j ≢ core = λ same. none_there (sym was.flies.none ∙ ap waits same ∙ waited) in
        record {
          flight = was.flight;
          flies_is = at_other flights core None (owner layout j) away ∙ was.flies_is;
          slot_is = was.slot_is;
          flies = flies_learned core (owner layout j) was.flight away was.flies;
        };
    idle = λ other none. elim (same_or_not other core) [
      | inl same ↦ at_same waits core None other same
      | inr apart ↦ at_other waits core None other apart ∙ fits.idle other (sym (at_other flights core None other apart) ∙ none)
    ];
  }
    where
      flies_learned : (core other : ℕ) (flight : SlotFlight) → other ≢ core → IsFlying slots waits other flight
          → IsFlying slots (with_at waits core None) other flight
      flies_learned core other flight apart is = record {
        work = is.work;
        there = is.there;
        commit = is.commit;
        flush = is.flush;
        aloft = is.aloft;
        left = is.left;
        read = is.read;
        none = at_other waits core None other apart ∙ is.none;
      }
