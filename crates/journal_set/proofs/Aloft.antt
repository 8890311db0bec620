-- A core's flight that is not durable: in which phase its slot is, and what its core may take yet.
use Rattle.std.proofs.Common.{◌≡◌, ◌≢◌, ◌<◌, ◌≤◌, ◌∙◌, Bool, length, true, false, Some, None, refl, sym, ap, subst, inl, inr}
use Rattle.sfs_base.proofs.BasicOptions.{none_some}
use Rattle.sfs_base.proofs.BasicTruth.{true_not_false}
use Rattle.sfs_image.specs.Settled.{slot_count}
use Rattle.sfs_dev.specs.Disk.{View}
use Rattle.journal_one.specs.Job.{Place}
use Rattle.cut_laws.proofs.Basics.{below_or}
use Rattle.stamp_table.specs.Table.{TableState}
use Rattle.slot_laws.specs.Fits.{FlightFits, IsFlying}
use Rattle.slot_laws.specs.Labels.{OwnTold, SlotFlight, owner}
use Rattle.slot_laws.specs.Slots.{SlotWork, may_be_open, place_at}
use Rattle.disk_box.specs.declared.key.BoxKey.{BoxKey}
use Rattle.disk_box.specs.declared.desk.Desk.{Desk}
use Rattle.disk_box.specs.declared.desk.Phase.{Phase}
use Rattle.disk_box.specs.declared.desk.Phase.TheVariants as phase
use Rattle.disk_box.specs.declared.kind.Kind.{Kind}
use Rattle.disk_box.specs.declared.kind.Kind.TheVariants as kind
use Rattle.disk_box.specs.Desk.{owed_by_flight, owed_of}
use Rattle.disk_box.specs.Kind.{HasKind, kind_of}
use Rattle.disk_box.specs.Pens.{PenHand, HoldsBox, IsAtDesk, WorksAtDesk, own_at, past_at}
use Rattle.disk_box.specs.Slots.{PhaseFits}
use Rattle.disk_box.proofs.After.{past_fits_at}
use Rattle.disk_box.proofs.Flights.{owed_flying}
use Rattle.disk_box.proofs.Owes.{owns_own}
use Rattle.journal_set.specs.declared.flying.Flight.{Flight}
use Rattle.journal_set.specs.Flying.{IsUnderWay, flight_of}

-- in which phases the slot of a commit is that is not durable, by whether its gate was written
abbrev pub FliesIn : Kind → Bool → Type 0
FliesIn kind.Filling opened = opened ≡ false
FliesIn kind.Filled opened = opened ≡ false
FliesIn kind.Sealed opened = opened ≡ false
FliesIn kind.Opened opened = opened ≡ true
FliesIn _ opened = ⊥

-- such a slot is in one of four phases
pub in_no_phase : (what : Kind) (opened : Bool) → FliesIn what opened → what ≢ kind.Filling → what ≢ kind.Filled → what ≢ kind.Sealed → what ≢ kind.Opened → ⊥
in_no_phase kind.Idle opened flies filling filled sealed behind = absurd flies
in_no_phase kind.Filling opened flies filling filled sealed behind = absurd (filling refl)
in_no_phase kind.Filled opened flies filling filled sealed behind = absurd (filled refl)
in_no_phase kind.Sealed opened flies filling filled sealed behind = absurd (sealed refl)
in_no_phase kind.Opened opened flies filling filled sealed behind = absurd (behind refl)
in_no_phase kind.Durable opened flies filling filled sealed behind = absurd flies
in_no_phase kind.Placed opened flies filling filled sealed behind = absurd flies
in_no_phase kind.Copied opened flies filling filled sealed behind = absurd flies
in_no_phase kind.Closing opened flies filling filled sealed behind = absurd flies
in_no_phase kind.Lost opened flies filling filled sealed behind = absurd flies

flies_in : (p : Phase) (place : Place) (work : SlotWork) (opened : Bool) → PhaseFits p place (Some work) → work.settled ≡ false
    → may_be_open work.known.gate_left ≡ opened → may_be_open work.known.gate_read ≡ opened → FliesIn (kind_of p) opened
flies_in (phase.Idle x) place work opened fits aloft left read = absurd fits
flies_in (phase.Filling x) place work opened fits aloft left read = sym left ∙ ap may_be_open fits.being.shut.left
flies_in (phase.Filled x) place work opened fits aloft left read = sym left ∙ ap may_be_open fits.being.shut.left
flies_in (phase.Sealed x) place work opened fits aloft left read = sym left ∙ ap may_be_open fits.filled.shut.left
flies_in (phase.Opened x) place work opened fits aloft left read = sym read ∙ ap may_be_open fits.read
flies_in (phase.Durable x) place work opened fits aloft left read = absurd (true_not_false (sym fits.durable ∙ aloft))
flies_in (phase.Placed x) place work opened fits aloft left read = absurd (true_not_false (sym fits.durable ∙ aloft))
flies_in (phase.Copied x) place work opened fits aloft left read = absurd (true_not_false (sym fits.placed.durable ∙ aloft))
flies_in (phase.Closing x) place work opened fits aloft left read = absurd (true_not_false (sym fits.durable ∙ aloft))
flies_in phase.Lost place work opened fits aloft left read = absurd fits

-- A core that has the box has a flight, and no turn waits for it.
module _ {D : Type 0} (t : TableState (BoxKey D)) (pen : PenHand D) (holds : HoldsBox t pen) (flight : SlotFlight)
    (flies : (own_at pen).flight ≡ Some flight) where
  flight_fits : FlightFits pen.table.given.layout (past_at pen).slots (past_at pen).waits pen.view.core flight
  flight_fits = (past_fits_at t pen holds).flights.each pen.view.core flight (ap (λ (o : OwnTold). o.flight) (owns_own t pen holds) ∙ flies)

  pub flight_own : owner pen.table.given.layout flight.slot ≡ pen.view.core
  flight_own = flight_fits.own

  -- it is in its slot
  pub flying : (past_at pen).waits pen.view.core ≡ None → IsFlying (past_at pen).slots (past_at pen).waits pen.view.core flight
  flying learned = elim flight_fits.is [
    | inl flies ↦ flies
    | inr landed ↦ absurd (none_some (sym learned ∙ landed.waits_is))
  ]

  -- in a phase by whether its gate was written
  pub flight_phase : (view : D → View) (desk : Desk D) (what : Kind) → WorksAtDesk view t pen desk → (past_at pen).waits pen.view.core ≡ None
      → HasKind desk.slots.items flight.slot what → FliesIn what flight.opened
  flight_phase view desk what work learned has =
      let fly = flying learned in
      let place = place_at pen.table.given.layout flight.slot in
      let fits = (work.fits.slots work.calm).each flight.slot has.slot has.there in
      subst (λ k. FliesIn k flight.opened) has.kind_is
      (flies_in has.slot.phase place fly.work flight.opened (subst (PhaseFits has.slot.phase place) fly.there fits.fits) fly.aloft fly.left fly.read)

  -- its slot is one of the box's
  pub flight_within : (view : D → View) (desk : Desk D) → WorksAtDesk view t pen desk → (past_at pen).waits pen.view.core ≡ None
      → flight.slot < length desk.slots.items
  flight_within view desk work learned = elim (below_or flight.slot (length desk.slots.items)) [
    | inl low ↦ low
    | inr high ↦
        let beyond : slot_count pen.table.given.layout ≤ flight.slot = subst (λ n. n ≤ flight.slot) work.fits.frame.count high in
        absurd (none_some (sym ((past_fits_at t pen holds).numbers.beyond flight.slot beyond) ∙ (flying learned).there))
  ]

-- how many turns it may take yet
pub owed_under : (flight : Flight) (opened : Bool) (own : OwnTold) → IsUnderWay flight opened own → owed_of own None ≡ owed_by_flight (flight_of flight opened)
owed_under flight opened own under = owed_flying own None (flight_of flight opened) refl under.goes_on under.none_reserved under.flies

-- what was told of a core at the box is what its own labels say
pub owed_at : {D : Type 0} (t : TableState (BoxKey D)) (pen : PenHand D) → HoldsBox t pen → (flight : Flight) (opened : Bool)
    → IsUnderWay flight opened (own_at pen)
    → owed_of ((past_at pen).owns pen.view.core) None ≡ owed_by_flight (flight_of flight opened)
owed_at t pen holds flight opened under = ap (λ (o : OwnTold). owed_of o None) (owns_own t pen holds) ∙ owed_under flight opened (own_at pen) under

-- where no commit has failed, a core at the box is at work
pub works_at : {D : Type 0} (view : D → View) (t : TableState (BoxKey D)) (pen : PenHand D) (desk : Desk D) → IsAtDesk view t pen desk → desk.failed ≡ None
    → WorksAtDesk view t pen desk
works_at view t pen desk at none = record { holds = at.holds; calm = sym at.fits.frame.failed ∙ none; fits = at.fits; space = at.space }

-- A commit under way, of a core at work for which no turn waits: its slot is one of the box's own, in a phase by whether its gate was written.
module _ {D : Type 0} (view : D → View) (t : TableState (BoxKey D)) (pen : PenHand D) (desk : Desk D) (work : WorksAtDesk view t pen desk)
    (learned : (past_at pen).waits pen.view.core ≡ None) (flight : Flight) (opened : Bool) (under : IsUnderWay flight opened (own_at pen)) where
  pub under_within : flight.slot < length desk.slots.items
  under_within = flight_within t pen work.holds (flight_of flight opened) under.flies view desk work learned

  pub under_own : owner pen.table.given.layout flight.slot ≡ pen.view.core
  under_own = flight_own t pen work.holds (flight_of flight opened) under.flies

  pub under_phase : (what : Kind) → HasKind desk.slots.items flight.slot what → FliesIn what opened
  under_phase what has = flight_phase t pen work.holds (flight_of flight opened) under.flies view desk what work learned has
