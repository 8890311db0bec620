-- Where a core that has reserved has no idle slot, a durable commit lingers in one of its own.
use Rattle.std.specs.Prelude.{slice_get}
use Rattle.std.proofs.Common.{◌≡◌, ◌*◌, ◌∙◌, ℕ, Bool, true, false, length, Option, Some, None, inl, inr, refl, sym, ap, subst, arith}
use Rattle.std.proofs.lemmas.Option.{slice_get_cases}
use Rattle.sfs_base.proofs.BasicOptions.{none_some}
use Rattle.sfs_dev.specs.Disk.{View}
use Rattle.journal_one.specs.Job.{Place}
use Rattle.stamp_table.specs.Table.{TableState}
use Rattle.slot_laws.specs.Schedule.{AllIdle}
use Rattle.slot_laws.specs.Slots.{SlotWork, place_at}
use Rattle.disk_box.specs.declared.key.BoxKey.{BoxKey}
use Rattle.disk_box.specs.declared.desk.Desk.{Desk}
use Rattle.disk_box.specs.declared.desk.Phase.{Phase}
use Rattle.disk_box.specs.declared.desk.Phase.TheVariants as phase
use Rattle.disk_box.specs.declared.desk.Slot.{Slot}
use Rattle.disk_box.specs.declared.kind.Kind.TheVariants as kind
use Rattle.disk_box.specs.Kind.{kind_of}
use Rattle.disk_box.specs.Pens.{PenHand, WorksAtDesk, past_at}
use Rattle.disk_box.specs.Slots.{PhaseFits, SlotFits}
use Rattle.disk_box.specs.Steps.{Lingers, is_lingering}
use Rattle.disk_box.proofs.After.{past_fits_at}
use Rattle.disk_box.proofs.Older.{durable_lingers}
use Rattle.disk_box.proofs.Owners.{first_own, first_owner, owner_is}
use Rattle.journal_set.specs.OwnSlots.{NoneIdle}

-- a slot that is not idle has a commit
not_idle : (p : Phase) (place : Place) → PhaseFits p place None → kind_of p ≡ kind.Idle
not_idle (phase.Idle x) place fits = refl
not_idle (phase.Filling x) place fits = absurd fits
not_idle (phase.Filled x) place fits = absurd fits
not_idle (phase.Sealed x) place fits = absurd fits
not_idle (phase.Opened x) place fits = absurd fits
not_idle (phase.Durable x) place fits = absurd fits
not_idle (phase.Placed x) place fits = absurd fits
not_idle (phase.Copied x) place fits = absurd fits
not_idle (phase.Closing x) place fits = absurd fits
not_idle phase.Lost place fits = absurd fits

module _ {D : Type 0} (view : D → View) (t : TableState (BoxKey D)) (pen : PenHand D) (desk : Desk D) (work : WorksAtDesk view t pen desk)
    (rests : ((past_at pen).owns pen.view.core).flight ≡ None) (none : NoneIdle desk.slots.items (length desk.waits.items) pen.view.core) where
  abbrev key : BoxKey D
  key = pen.table.given

  abbrev pub own_slot : ℕ
  own_slot = pen.view.core * key.layout.slots

  there : (slot : Slot) × (slice_get desk.slots.items own_slot ≡ Some slot)
  there =
      let low = first_own view key (past_at pen) desk work.fits.frame pen.view.core work.holds.core_is in
      elim (slice_get_cases desk.slots.items own_slot).1 [
        | inl found ↦ (found.0, found.2)
        | inr past ↦ (let beyond = past.0 in absurd (omega (arith, low, beyond)))
      ]

  -- the first slot of its own is not idle
  busy : kind_of there.0.phase ≡ kind.Idle → ⊥
  busy idle = none own_slot (record {
    owner_is = owner_is view key (past_at pen) desk work.fits.frame own_slot ∙ first_owner view key (past_at pen) desk work.fits.frame pen.view.core;
    has = record { slot = there.0; there = there.1; kind_is = idle };
  })

  fits : SlotFits (place_at key.layout own_slot) ((past_at pen).slots own_slot) there.0
  fits = (work.fits.slots work.calm).each own_slot there.0 there.1

  -- and what is in it is durable, since the core has no flight
  lingers_so : (told : Option SlotWork) → (past_at pen).slots own_slot ≡ told → is_lingering (kind_of there.0.phase) ≡ true
  lingers_so None is = absurd (busy (not_idle there.0.phase (place_at key.layout own_slot) (subst (PhaseFits there.0.phase (place_at key.layout own_slot)) is
      fits.fits)))
  lingers_so (Some one) is = by one.settled refl where
    by : (settled : Bool) → one.settled ≡ settled → is_lingering (kind_of there.0.phase) ≡ true
    by true settled = durable_lingers there.0.phase (place_at key.layout own_slot) one (subst (PhaseFits there.0.phase (place_at key.layout own_slot)) is
        fits.fits) settled
    by false settled =
        let aloft = (past_fits_at t pen work.holds).flights.aloft own_slot one is settled in
        let flies : ((past_at pen).owns pen.view.core).flight ≡ Some aloft.flight =
        ap (λ c. ((past_at pen).owns c).flight) (sym (first_owner view key (past_at pen) desk work.fits.frame pen.view.core)) ∙ aloft.flies_is
        in
        absurd (none_some (sym rests ∙ flies))

  -- so some slot has a commit
  pub some_commit : AllIdle (past_at pen).slots → ⊥
  some_commit idle = busy (not_idle there.0.phase (place_at key.layout own_slot)
      (subst (PhaseFits there.0.phase (place_at key.layout own_slot)) (idle own_slot) fits.fits))

  pub some_lingers : Lingers desk.slots.items own_slot
  some_lingers = record {
    what = kind_of there.0.phase;
    has = record { slot = there.0; there = there.1; kind_is = refl };
    lingers = lingers_so ((past_at pen).slots own_slot) refl;
  }
