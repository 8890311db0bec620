-- Behind a label that a core with the box has told.
use Rattle.std.proofs.Common.{◌≡◌, ◌∷◌, ◌∙◌, ℕ, [], Option, refl, sym, ap, subst}
use Rattle.sfs_dev.specs.Disk.{View}
use Rattle.stamp_table.specs.declared.event.Event.TheVariants.{Told}
use Rattle.stamp_table.specs.Table.{TableState}
use Rattle.slot_laws.specs.declared.label.Label.{Label}
use Rattle.slot_laws.specs.Labels.{BoxPast, after_label, first_past}
use Rattle.slot_laws.specs.Grants.{SpaceDoes}
use Rattle.slot_laws.specs.Fits.{PastFits}
use Rattle.slot_laws.proofs.GrantsTold.{goes_both}
use Rattle.disk_box.specs.declared.key.BoxKey.{BoxKey}
use Rattle.disk_box.specs.declared.desk.Desk.{Desk}
use Rattle.disk_box.specs.Box.{SpaceFits}
use Rattle.disk_box.specs.Desk.{DeskFits, FrameFits, RoomFits}
use Rattle.disk_box.specs.Pens.{PenHand, past_at, HoldsBox, TellsLabel, IsAtDesk}
use Rattle.disk_box.proofs.Entered.{past_fits}

module _ {D : Type 0} (view : D → View) (t : TableState (BoxKey D)) (before after : PenHand D) (fact : Label) (holds : HoldsBox t after)
    (tells : TellsLabel fact before after) where
  abbrev key : BoxKey D
  key = before.table.given

  abbrev later : BoxPast
  later = after_label key.layout before.view.core fact (past_at before)

  pub key_same : after.table.given ≡ key
  key_same = ap (λ (h : PenHand D). h.table.given) tells.goes.frame

  -- free space goes along with the label
  pub space_told : (was now : Desk D) → SpaceFits key before.view.seen was
      → SpaceDoes (Told (record { 0 = before.view.core }) fact) (past_at before) was.ledger.space now.ledger.space
      → SpaceFits after.table.given after.view.seen now
  space_told was now space does =
      subst (λ (k : BoxKey D). SpaceFits k after.view.seen now) (sym key_same)
      (subst (λ l. SpaceFits key l now) (sym tells.seen_is)
      (goes_both key.layout (Told (record { 0 = before.view.core }) fact ∷ []) was.ledger.space now.ledger.space before.view.seen
      (first_past key.start) key.space space (record { next = now.ledger.space; does = does }, refl)))

  pub fits_told : (now : Desk D) → DeskFits view key later now → DeskFits view after.table.given (past_at after) now
  fits_told now fits = subst (λ (z : BoxKey D × BoxPast). DeskFits view z.0 z.1 now) (λ i. (sym key_same i, sym tells.past i)) fits

  pub frame_told : (now : Desk D) → FrameFits view key later now → FrameFits view after.table.given (past_at after) now
  frame_told now fits = subst (λ (z : BoxKey D × BoxPast). FrameFits view z.0 z.1 now) (λ i. (sym key_same i, sym tells.past i)) fits

  pub room_told : (now : Desk D) → RoomFits key later now → RoomFits after.table.given (past_at after) now
  room_told now fits = subst (λ (z : BoxKey D × BoxPast). RoomFits z.0 z.1 now) (λ i. (sym key_same i, sym tells.past i)) fits

  pub failed_told : (failed : Option ℕ) → later.failed ≡ failed → (past_at after).failed ≡ failed
  failed_told failed is = ap (λ (p : BoxPast). p.failed) tells.past ∙ is

  pub at_told : (was now : Desk D) → SpaceFits key before.view.seen was
      → SpaceDoes (Told (record { 0 = before.view.core }) fact) (past_at before) was.ledger.space now.ledger.space
      → DeskFits view key later now → IsAtDesk view t after now
  at_told was now space does fits = record { holds = holds; fits = fits_told now fits; space = space_told was now space does }

-- what was told fits, while a core has the box
pub past_fits_at : {D : Type 0} (t : TableState (BoxKey D)) (pen : PenHand D) → HoldsBox t pen
    → PastFits pen.table.given.layout pen.table.given.faults (past_at pen)
past_fits_at t pen holds = past_fits pen.table.given pen.view.seen holds.lawful
