-- The flight of a slot's commit that is not durable, and what its core may take yet.
use Rattle.std.proofs.Common.{◌≡◌, ◌∙◌, ℕ, Bool, true, false, Option, Some, None, refl, sym, ap}
use Rattle.sfs_base.proofs.BasicOptions.{none_some}
use Rattle.slot_laws.specs.Slots.{SlotWork, may_be_open}
use Rattle.slot_laws.specs.Labels.{BoxPast, OwnTold, SlotFlight, owner}
use Rattle.slot_laws.specs.Fits.{PastFits}
use Rattle.disk_box.specs.declared.key.BoxKey.{BoxKey}
use Rattle.disk_box.specs.Desk.{open_for, owed_by_flight, owed_of}

-- A core's flight is in a slot, with the commit that is there, and no failure has stopped the core.
pub record FliesIn (past : BoxPast) (k core : ℕ) (work : SlotWork) : Type 0 where
  pub flight : SlotFlight
  pub flies_is : (past.owns core).flight ≡ Some flight
  pub commit_is : work.commit ≡ flight.commit
  pub flush_is : work.flush ≡ flight.flush
  pub opened_is : may_be_open work.known.gate_left ≡ flight.opened
  pub waits_none : past.waits core ≡ None
  pub none_reserved : (past.owns core).reserved ≡ None
  pub goes_on : (past.owns core).over ≡ false

module _ {D : Type 0} (key : BoxKey D) (past : BoxPast) (fits : PastFits key.layout key.faults past) (calm : past.failed ≡ None) (k : ℕ) (work : SlotWork)
    (there : past.slots k ≡ Some work) (aloft : work.settled ≡ false) where
  abbrev core : ℕ
  core = owner key.layout k

  over_so : (over : Bool) → (past.owns core).over ≡ over → (past.owns core).over ≡ false
  over_so true is = absurd ((fits.over core is).1 calm)
  over_so false is = is

  reserved_so : (number : Option ℕ) → (past.owns core).reserved ≡ number → (past.owns core).reserved ≡ None
  reserved_so None is = is
  reserved_so (Some n) is = absurd (none_some (sym (fits.numbers.rests core n is) ∙ (fits.flights.aloft k work there aloft).flies_is))

  abbrev own_work : SlotWork
  own_work = (fits.flights.aloft k work there aloft).flies.work

  same_work : own_work ≡ work
  same_work =
      let by = fits.flights.aloft k work there aloft in
      Rattle.sfs_base.proofs.BasicOptions.some_same (sym by.flies.there ∙ (ap past.slots by.slot_is ∙ there))

  pub flies_in : FliesIn past k core work
  flies_in =
      let by = fits.flights.aloft k work there aloft in
      record {
        flight = by.flight;
        flies_is = by.flies_is;
        commit_is = ap (λ (w : SlotWork). w.commit) (sym same_work) ∙ by.flies.commit;
        flush_is = ap (λ (w : SlotWork). w.flush) (sym same_work) ∙ by.flies.flush;
        opened_is = ap (λ (w : SlotWork). may_be_open w.known.gate_left) (sym same_work) ∙ by.flies.left;
        waits_none = by.flies.none;
        none_reserved = reserved_so (past.owns core).reserved refl;
        goes_on = over_so (past.owns core).over refl;
      }

-- a core with a flight, and nothing reserved, may take so many turns
pub owed_flying : (own : OwnTold) (waits : Option Rattle.tree_laws.specs.declared.turns.Turn.Turn) (flight : SlotFlight) → waits ≡ None
    → own.over ≡ false → own.reserved ≡ None → own.flight ≡ Some flight → owed_of own waits ≡ owed_by_flight flight
owed_flying own waits flight none goes free flies = rw none (rw goes (rw free (rw flies refl)))

-- and its open commit is that of the flight
pub open_flying : (own : OwnTold) (waits : Option Rattle.tree_laws.specs.declared.turns.Turn.Turn) (flight : SlotFlight) → waits ≡ None
    → own.reserved ≡ None → own.flight ≡ Some flight → open_for own waits ≡ Some (flight.commit, true)
open_flying own waits flight none free flies = rw none (rw free (rw flies refl))
