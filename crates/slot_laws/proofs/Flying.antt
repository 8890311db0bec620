-- Flights, slots and turns that wait go on to fit.
use Rattle.std.specs.Prelude.{option_map}
use Rattle.std.proofs.Common.{◌≡◌, ◌≢◌, ◌∙◌, ℕ, Bool, true, false, Option, Some, None, inl, inr, refl, sym, ap, subst}
use Rattle.sfs_base.proofs.BasicOptions.{some_same}
use Rattle.sfs_base.proofs.BasicTruth.{not_both}
use Rattle.sfs_image.specs.Super.{Layout}
use Rattle.journal_one.specs.Job.{Job}
use Rattle.tree_laws.specs.declared.turns.Turn.{Turn}
use Rattle.cut_laws.specs.Closure.{Flush}
use Rattle.merge_laws.proofs.Blocks.{same_or_not}
use Rattle.slot_laws.specs.Slots.{may_be_open, known_synced, SlotWork, begun_work, knowing, Slots, with_at, changed_slot, synced_slots}
use Rattle.slot_laws.specs.Labels.{owner, SlotFlight}
use Rattle.slot_laws.specs.Fits.{IsFlying, FlightFits, FlightsFit}
use Rattle.slot_laws.proofs.Basics.{at_here, at_same, at_other, none_there}
use Rattle.slot_laws.proofs.Came.{KeepsTold, Came, knowing_told, told_itself, changed_came, synced_came}

-- Of a commit the same is told, but for what is known; and while it is not durable, its gate is known to be open, or not, as it was.
pub record Keeps (work new : SlotWork) : Type 0 where
  pub told : KeepsTold work new
  pub gates : work.settled ≡ false → (opened : Bool) → may_be_open work.known.gate_left ≡ opened → may_be_open work.known.gate_read ≡ opened
      → (may_be_open new.known.gate_left ≡ opened) × (may_be_open new.known.gate_read ≡ opened)

-- A slot has another commit of which the same is told.
pub record IsKept (slots : Slots) (k : ℕ) (work : SlotWork) : Type 0 where
  pub other : SlotWork
  pub there : slots k ≡ Some other
  pub keeps : Keeps work other

-- Slots have the same commits, of which something else may be known.
pub record SlotsKeep (slots later : Slots) : Type 0 where
  pub forth : (k : ℕ) (work : SlotWork) → slots k ≡ Some work → IsKept later k work
  pub back : (k : ℕ) (new : SlotWork) → later k ≡ Some new → Came (λ (j : ℕ). Keeps) slots k new

keeps_itself : (work : SlotWork) → Keeps work work
keeps_itself work = record { told = told_itself work; gates = λ aloft opened left read. (left, read) }

-- one slot's commit is another, of which the same is told
pub changed_keeps : (slots : Slots) (k : ℕ) (change : SlotWork → SlotWork) → ((work : SlotWork) → slots k ≡ Some work → Keeps work (change work))
    → SlotsKeep slots (changed_slot slots k change)
changed_keeps slots k change keeps = record {
  forth = λ j work there. elim (same_or_not j k) [
    | inl same ↦
        let here = ap slots (sym same) ∙ there in
        record {
          other = change work;
          there = at_same slots k (option_map change (slots k)) j same ∙ ap (option_map change) here;
          keeps = keeps work here;
        }
    | inr apart ↦ record {
      other = work;
      there = at_other slots k (option_map change (slots k)) j apart ∙ there;
      keeps = keeps_itself work;
    }
  ];
  back = changed_came (λ (j : ℕ). Keeps) slots (λ j. keeps_itself) k change keeps;
}

-- once nothing is pending, the images have what a read gives
keeps_synced : (work : SlotWork) → Keeps work (knowing known_synced work)
keeps_synced work = record { told = knowing_told known_synced work; gates = λ aloft opened left read. (read, read) }

pub synced_keep : (slots : Slots) → SlotsKeep slots (synced_slots slots)
synced_keep slots = record {
  forth = λ j work there. record {
    other = knowing known_synced work;
    there = ap (option_map (knowing known_synced)) there;
    keeps = keeps_synced work;
  };
  back = synced_came (λ (j : ℕ). Keeps) slots (λ j. keeps_synced);
}

module _ (layout : Layout) (slots : Slots) (waits : ℕ → Option Turn) (flights : ℕ → Option SlotFlight) (fits : FlightsFit layout slots waits flights) where
  -- what flies where the same is told
  flies_kept : (later : Slots) → SlotsKeep slots later → (core : ℕ) (flight : SlotFlight) → IsFlying slots waits core flight → IsFlying later waits core flight
  flies_kept later keep core flight is =
      let new = keep.forth flight.slot is.work is.there in
      let gates = new.keeps.gates is.aloft flight.opened is.left is.read in
      record {
        work = new.other;
        there = new.there;
        commit = new.keeps.told.numbers.commit ∙ is.commit;
        flush = new.keeps.told.flush ∙ is.flush;
        aloft = new.keeps.told.settled ∙ is.aloft;
        left = gates.0;
        read = gates.1;
        none = is.none;
      }

  pub kept_fit : (later : Slots) → SlotsKeep slots later → FlightsFit layout later waits flights
  kept_fit later keep = record {
    each = λ core flight is.
        let was = fits.each core flight is in
        record { own = was.own; is = elim was.is [ inl flies ↦ inl (flies_kept later keep core flight flies) | inr landed ↦ inr landed ] };
    aloft = λ k new there aloft.
        let old = keep.back k new there in
        let was = fits.aloft k old.work old.there (sym old.stays.told.settled ∙ aloft) in
        record { flight = was.flight; flies_is = was.flies_is; slot_is = was.slot_is; flies = flies_kept later keep (owner layout k) was.flight was.flies };
    idle = fits.idle;
  }

  -- what flies in a slot flies where another slot is another
  pub flies_beside : (k : ℕ) (one : Option SlotWork) (core : ℕ) (flight : SlotFlight) → flight.slot ≢ k → IsFlying slots waits core flight
      → IsFlying (with_at slots k one) waits core flight
  flies_beside k one core flight apart is = record {
    work = is.work;
    there = at_other slots k one flight.slot apart ∙ is.there;
    commit = is.commit;
    flush = is.flush;
    aloft = is.aloft;
    left = is.left;
    read = is.read;
    none = is.none;
  }

  -- the core of a flight in a slot is the slot's owner
  pub flight_owner : (k core : ℕ) (flight : SlotFlight) → flights core ≡ Some flight → flight.slot ≡ k → owner layout k ≡ core
  flight_owner k core flight is same = ap (owner layout) (sym same) ∙ (fits.each core flight is).own

  -- a commit begins in an idle slot
  module _ (core k : ℕ) (job : Job) (commit : ℕ) (flush : Flush) (idle : slots k ≡ None) (rests : flights core ≡ None) (own : owner layout k ≡ core) where
    begun_flies : IsFlying (with_at slots k (Some (begun_work job commit flush))) waits core
        (record { slot = k; commit = commit; flush = flush; opened = false })
    begun_flies = record {
      work = begun_work job commit flush;
      there = at_here slots k (Some (begun_work job commit flush));
      commit = refl;
      flush = refl;
      aloft = refl;
      left = refl;
      read = refl;
      none = fits.idle core rests;
    }

    beside_begun : (other : ℕ) (flight : SlotFlight) → flights other ≡ Some flight
        → FlightFits layout (with_at slots k (Some (begun_work job commit flush))) waits other flight
    beside_begun other flight is =
        let was = fits.each other flight is in
        record {
          own = was.own;
          is = elim was.is [
            | inl flies ↦
                inl
                (flies_beside k (Some (begun_work job commit flush)) other flight
                (λ same. none_there (sym idle ∙ ap slots (sym same) ∙ flies.there)) flies)
            | inr landed ↦ inr landed
          ];
        }

    pub begun_fit : FlightsFit layout (with_at slots k (Some (begun_work job commit flush))) waits
        (with_at flights core (Some (record { slot = k; commit = commit; flush = flush; opened = false })))
    begun_fit = record {
      each = λ other flight is. elim (same_or_not other core) [
        | inl same ↦
            let e = some_same (sym (at_same flights core (Some (record { slot = k; commit = commit; flush = flush; opened = false })) other same) ∙ is) in
            subst
            (λ (f : SlotFlight). FlightFits layout (with_at slots k (Some (begun_work job commit flush))) waits other f) e
            (subst
            (λ (c : ℕ). FlightFits layout (with_at slots k (Some (begun_work job commit flush))) waits c
            (record { slot = k; commit = commit; flush = flush; opened = false })) (sym same) (record { own = own; is = inl begun_flies }))
        | inr apart ↦
            beside_begun other flight
            (sym (at_other flights core (Some (record { slot = k; commit = commit; flush = flush; opened = false })) other apart) ∙ is)
      ];
      aloft = λ j work there aloft. elim (same_or_not j k) [
        | inl same ↦ record {
          flight = record { slot = k; commit = commit; flush = flush; opened = false };
          flies_is = at_same flights core _ (owner layout j) (ap (owner layout) same ∙ own);
          slot_is = sym same;
          flies = subst
              (λ (c : ℕ). IsFlying (with_at slots k (Some (begun_work job commit flush))) waits c
              (record { slot = k; commit = commit; flush = flush; opened = false }))
              (sym (ap (owner layout) same ∙ own)) begun_flies;
        }
        | inr apart ↦
            let was = fits.aloft j work (sym (at_other slots k (Some (begun_work job commit flush)) j apart) ∙ there) aloft in
            let away : owner layout j ≢ core = λ same. none_there (sym rests ∙ ap flights (sym same) ∙ was.flies_is) in
            record {
              flight = was.flight;
              flies_is = at_other flights core _ (owner layout j) away ∙ was.flies_is;
              slot_is = was.slot_is;
              flies = flies_beside k (Some (begun_work job commit flush)) (owner layout j) was.flight (λ same. apart (sym was.slot_is ∙ same)) was.flies;
            }
      ];
      idle = λ other none. elim (same_or_not other core) [
        | inl same ↦ none_there (sym none ∙ at_same flights core _ other same)
        | inr apart ↦ fits.idle other (sym (at_other flights core _ other apart) ∙ none)
      ];
    }

  -- a durable commit's slot is idle again
  pub idled_fit : (k : ℕ) (work : SlotWork) → slots k ≡ Some work → work.settled ≡ true → FlightsFit layout (with_at slots k None) waits flights
  idled_fit k work there settled = record {
    each = λ core flight is.
        let was = fits.each core flight is in
        record {
          own = was.own;
          is = elim was.is [
            | inl flies ↦
                inl
                (flies_beside k None core flight
                (λ same. absurd
                (not_both (ap (λ (w : SlotWork). w.settled) (some_same (sym flies.there ∙ ap slots same ∙ there)) ∙ settled) flies.aloft)) flies)
            | inr landed ↦ inr landed
          ];
        };
    aloft = λ j other is aloft. elim (same_or_not j k) [
      | inl same ↦ none_there (sym (at_same slots k None j same) ∙ is)
      | inr apart ↦
          let was = fits.aloft j other (sym (at_other slots k None j apart) ∙ is) aloft in
          record {
            flight = was.flight;
            flies_is = was.flies_is;
            slot_is = was.slot_is;
            flies = flies_beside k None (owner layout j) was.flight (λ same. apart (sym was.slot_is ∙ same)) was.flies;
          }
    ];
    idle = fits.idle;
  }
