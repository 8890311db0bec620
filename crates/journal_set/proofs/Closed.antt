-- What journals leave where they are closed.
use Rattle.std.proofs.Common.{◌≡◌, ◌<◌, ◌∙◌, ℕ, List, Option, Some, None, inl, inr, sym, ap, subst, arith, length, max}
use Rattle.std.specs.Prelude.{slice_get}
use Rattle.std.proofs.lemmas.Option.{slice_get_cases}
use Rattle.sfs_dev.specs.Disk.{View}
use Rattle.stamp_table.specs.declared.event.Event.{Event}
use Rattle.stamp_table.specs.Hand.{Desk}
use Rattle.stamp_table.specs.Table.{TableState}
use Rattle.slot_laws.specs.declared.label.Label.{Label}
use Rattle.slot_laws.specs.Labels.{OwnTold, nothing_told, own_from}
use Rattle.slot_laws.specs.Laws.{AreOfCores, IsAtRest}
use Rattle.slot_laws.proofs.Lawful.{pens_make_the_record}
use Rattle.disk_box.specs.declared.key.BoxKey.{BoxKey}
use Rattle.disk_box.specs.declared.desk.Desk.{Desk as BoxDesk}
use Rattle.disk_box.specs.Box.{IsHome, StandsBox, WasTold}
use Rattle.disk_box.specs.Pens.{PenHand, own_at}
use Rattle.disk_box.specs.Desk.{HaveFew}
use Rattle.journal_set.specs.Making.{LeavesDisk, MayClose}
use Rattle.journal_set.specs.Ready.{HasNothingDue}

-- a core with nothing due is at rest
at_rest : (own : OwnTold) → HasNothingDue own → IsAtRest own
at_rest own due = elim due [ inl over ↦ inr over | inr none ↦ inl none.1 ]

pub leaves_disk : {D : Type 0} (view : D → View) (key : BoxKey D) (t : TableState (BoxKey D)) (pens : List (PenHand D)) (log : List (Event Label)) (desk : BoxDesk D)
    → MayClose t pens → key.layout.cores ≡ length pens → WasTold key log
    → ((core : ℕ) (pen : PenHand D) → slice_get pens core ≡ Some pen
    → pen.view.mine ≡ Rattle.stamp_table.specs.Rule.entries_by Rattle.stamp_table.specs.Events.event_core core log)
    → ((core : ℕ) (pen : PenHand D) → slice_get pens core ≡ Some pen → mathlib.Core.List.IsPrefix pen.view.seen log)
    → IsHome view key log desk → LeavesDisk view key pens log desk.disk desk.turns.items
leaves_disk view key t pens log desk may count told mine seen home = record {
  lawful = told.rules;
  own = subst (λ n. AreOfCores n log) count told.cores;
  mine = mine;
  seen = seen;
  record_is = home.fits.frame.turns;
  few = subst (λ l. HaveFew l (max key.faults (view desk.disk).faults)) (sym home.fits.frame.turns) home.fits.frame.few;
  parts = λ core pen there.
      let own = ap (λ l. own_from l nothing_told) (sym (mine core pen there)) in
      ap (Rattle.merge_laws.specs.Pens.turns_of_core core) home.fits.frame.turns
      ∙ (pens_make_the_record key.layout key.faults log core key.start told.rules
      (subst IsAtRest (sym own) (at_rest (own_at pen) (may.rests core pen there)))
      ∙ ap (λ (o : OwnTold). o.told) own);
  run = home.fits.frame.run;
  since = home.fits.frame.since;
  faults = home.fits.faults;
  space = (desk.ledger.space, home.space);
}

-- A table whose journals may be closed has a place.
pub some_places : {D : Type 0} (t : TableState (BoxKey D)) (pens : List (PenHand D)) → MayClose t pens → 0 < t.table.id.slots
some_places {D = D} t pens may =
    let some = may.some in
    elim (slice_get_cases pens 0).1 [
      | inl found ↦
          let out = may.outside 0 found.0 found.2 in
          subst (λ (d : Desk (BoxKey D)). 0 < d.id.slots) out.table_is out.place
      | inr past ↦ (let none = past.0 in absurd (omega (arith, some, none)))
    ]

-- what stands for a history at its place is a box at home
pub home_of : {D : Type 0} (view : D → View) (key : BoxKey D) (log : List (Event Label)) (value : Option (BoxDesk D)) → StandsBox view key log value
    → (value ≡ None → ⊥)
home_of view key log None stands none = stands
home_of view key log (Some desk) stands none = absurd (cc none)

pub home_some : {D : Type 0} (view : D → View) (key : BoxKey D) (log : List (Event Label)) (value : Option (BoxDesk D)) (desk : BoxDesk D)
    → StandsBox view key log value → value ≡ Some desk → IsHome view key log desk
home_some view key log value desk stands is = subst (StandsBox view key log) is stands
