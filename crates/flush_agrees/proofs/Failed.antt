-- The first failure of the labels of a box is that of more.
use mathlib.Core.List.{IsPrefix}
use Rattle.std.specs.Option.{option_or}
use Rattle.std.proofs.Common.{◌≡◌, ◌∷◌, ◌∙◌, ℕ, Some, ap, List, [], sym}
use Rattle.sfs_image.specs.Super.{Layout}
use Rattle.merge_laws.specs.Pens.{failure_by, failed_in}
use Rattle.stamp_table.specs.declared.event.Event.{Event}
use Rattle.stamp_table.specs.declared.event.Event.TheVariants.{Called, Told}
use Rattle.slot_laws.specs.declared.label.Label.{Label}
use Rattle.slot_laws.specs.Labels.{BoxPast, after_label, past_from, first_past}
use Rattle.slot_laws.specs.declared.label.Label.TheVariants as label
use Rattle.slot_laws.proofs.NodesTold.{past_parts}
use Rattle.disk_box.specs.declared.key.BoxKey.{BoxKey}
use Rattle.disk_box.specs.Box.{LawfulBox, past_of}
use Rattle.disk_box.proofs.Entered.{past_fits}

label_keeps : (layout : Layout) (core : ℕ) (fact : Label) (past : BoxPast) (faults : ℕ) → past.failed ≡ Some faults
    → (after_label layout core fact past).failed ≡ Some faults
label_keeps layout core label.Took past faults is = is
label_keeps layout core label.Gave past faults is = is
label_keeps layout core (label.Noted turn) past faults is = ap (λ o. option_or o (failure_by turn.act turn.faults)) is
label_keeps layout core (label.Reserved commit seen grant) past faults is = is
label_keeps layout core (label.Returned commit) past faults is = is
label_keeps layout core (label.Began filling commit node stamp blocks inodes) past faults is = is
label_keeps layout core (label.Filled slot piece done) past faults is = is
label_keeps layout core (label.Synced now) past faults is = is
label_keeps layout core (label.Opened slot done cut opened) past faults is = is
label_keeps layout core (label.Settled slot turn) past faults is = is
label_keeps layout core (label.Learned turn) past faults is = is
label_keeps layout core (label.Placed slot n done) past faults is = is
label_keeps layout core (label.Shut slot done) past faults is = is
label_keeps layout core (label.Idled slot) past faults is = is
label_keeps layout core (label.Empty commit cut opened durable) past faults is = is

log_keeps : (layout : Layout) (log : List (Event Label)) (past : BoxPast) (faults : ℕ) → past.failed ≡ Some faults
    → (past_from layout log past).failed ≡ Some faults
log_keeps layout [] past faults is = is
log_keeps layout (Called entry ∷ log) past faults is = log_keeps layout log past faults is
log_keeps layout (Told core fact ∷ log) past faults is =
    log_keeps layout log (after_label layout core.0 fact past) faults (label_keeps layout core.0 fact past faults is)

-- so the record of turns has it
pub failure_stays : {D : Type 0} (key : BoxKey D) (front labels : List (Event Label)) (faults : ℕ) → LawfulBox key labels → IsPrefix front labels
    → (past_of key front).failed ≡ Some faults → failed_in (past_of key labels).turns ≡ Some faults
failure_stays key front labels faults lawful on is =
    sym (past_fits key labels lawful).times.failed
    ∙ (ap (λ (l : List (Event Label)). (past_from key.layout l (first_past key.start)).failed) (sym on.1)
    ∙ (ap (λ (p : BoxPast). p.failed) (past_parts key.layout key.faults front on.0 (first_past key.start))
    ∙ log_keeps key.layout on.0 (past_from key.layout front (first_past key.start)) faults is))
