-- A turn that is noted: what is kept beside the slots goes on to fit.
use Rattle.disk_box.specs.Desk.{GoesOnSince, HaveFew, turn_faults}
use Rattle.std.proofs.Common.{◌≡◌, ◌≢◌, ◌+◌, ◌<◌, ◌≤◌, ◌∷◌, ◌++◌, ◌∙◌, ℕ, List, [], Option, Some, None, inl, inr, refl, sym, ap, subst, arith, max}
use Rattle.std.specs.Option.{option_or}
use Rattle.sfs_base.proofs.BasicOptions.{or_none}
use Rattle.sfs_dev.specs.Disk.{View}
use Rattle.tree_laws.specs.declared.turns.Turn.{Turn}
use Rattle.tree_laws.specs.declared.turns.TurnAct.{TurnAct}
use Rattle.tree_laws.specs.declared.turns.TurnAct.TheVariants as act
use Rattle.merge_laws.specs.Pens.{failure_by}
use Rattle.merge_laws.proofs.Blocks.{same_or_not}
use Rattle.slot_laws.specs.Labels.{BoxPast, OwnTold, after_label, own_label}
use Rattle.slot_laws.specs.Rules.{NotedRule}
use Rattle.slot_laws.specs.Fits.{PastFits}
use Rattle.slot_laws.specs.declared.label.Label.TheVariants as label
use Rattle.slot_laws.proofs.Basics.{at_same, at_other}
use Rattle.slot_image_laws.proofs.Running.{told_labels_fit}
use Rattle.commit_ledger.proofs.Kept.{quiet_labels_keep_it as keeps_same}
use Rattle.disk_box.specs.declared.key.BoxKey.{BoxKey}
use Rattle.disk_box.specs.declared.desk.Desk.{Desk}
use Rattle.disk_box.specs.Desk.{DeskFits, FaultsFit, FrameFits, RoomFits, open_for, owed_by}
use Rattle.disk_box.specs.Slots.{SlotsFit}
use Rattle.disk_box.proofs.Few.{few_both, few_one, few_none, counts_few}

-- no act but a failure is one
pub no_failure : (what : TurnAct) (faults : ℕ) → what ≢ act.Fail → failure_by what faults ≡ None
no_failure act.Granted faults not = refl
no_failure act.GivenBack faults not = refl
no_failure (act.Short kind need free) faults not = refl
no_failure act.Halted faults not = refl
no_failure act.CutAt faults not = refl
no_failure act.Opened faults not = refl
no_failure act.Durable faults not = refl
no_failure act.Fail faults not = absurd (not refl)

-- A turn is noted, and stands last in the record; where it is a failure, that is kept.
module _ {D : Type 0} (view : D → View) (key : BoxKey D) (core : ℕ) (past : BoxPast) (turn : Turn) where
  abbrev later : BoxPast
  later = after_label key.layout core (label.Noted turn) past

  -- the number reserved and the flight are as they were
  pub open_noted : (other : ℕ) → open_for (later.owns other) (past.waits other) ≡ open_for (past.owns other) (past.waits other)
  open_noted other = elim (same_or_not other core) [
    | inl same ↦
        ap (λ (o : OwnTold). open_for o (past.waits other)) (at_same past.owns core (own_label (label.Noted turn) (past.owns core)) other same)
        ∙ open_same (past.waits other)
        ∙ ap (λ (c : ℕ). open_for (past.owns c) (past.waits other)) (sym same)
    | inr not ↦ ap (λ (o : OwnTold). open_for o (past.waits other)) (at_other past.owns core (own_label (label.Noted turn) (past.owns core)) other not)
  ] where
    open_same : (waits : Option Turn) → open_for (own_label (label.Noted turn) (past.owns core)) waits ≡ open_for (past.owns core) waits
    open_same None = refl
    open_same (Some t) = refl

  pub noted_frame : (was now : Desk D) → FrameFits view key past was → PastFits key.layout key.faults past → NotedRule key.faults core turn past
      → turn.faults ≤ max key.faults (view was.disk).faults → turn.now ≡ (view was.disk).now → now ≡ record was { turns = now.turns; failed = now.failed }
      → now.turns.items ≡ was.turns.items ++ turn ∷ []
      → now.failed ≡ option_or was.failed (failure_by turn.act turn.faults) → FrameFits view key later now
  noted_frame was now frame fits rule low moment same turns failed = record {
    layout = frame.layout;
    large = subst (λ (d : Desk D). key.layout.blocks ≤ (view d.disk).size) (sym same) frame.large;
    laws = frame.laws;
    count = ap (λ (d : Desk D). Rattle.std.proofs.Common.length d.slots.items) same ∙ frame.count;
    cores = ap (λ (d : Desk D). Rattle.std.proofs.Common.length d.waits.items) same ∙ frame.cores;
    waits = λ c. ap (λ (d : Desk D). Rattle.disk_box.specs.Desk.wait_in d.waits.items c) same ∙ frame.waits c;
    ledger = subst (λ (d : Desk D). Rattle.commit_ledger.specs.Keeps.LedgerKeeps d.ledger later) (sym same)
        (keeps_same was.ledger past later (record { commits = refl; lasts = refl; opens = refl; done = refl }) frame.ledger);
    places = ap (λ (d : Desk D). Rattle.std.proofs.Common.length d.ledger.opens) same ∙ frame.places;
    opens = λ c.
        ap (λ (d : Desk D). Rattle.std.proofs.Common.option_map Rattle.disk_box.specs.Desk.open_told (Rattle.commit_ledger.specs.View.open_in d.ledger c)) same
        ∙ (frame.opens c ∙ sym (open_noted c));
    stamps = ap (λ (d : Desk D). d.stamps) same ∙ frame.stamps;
    faults = ap (λ (d : Desk D). d.faults) same ∙ frame.faults;
    failed = failed ∙ ap (λ o. option_or o (failure_by turn.act turn.faults)) frame.failed;
    turns = turns ∙ ap (λ l. l ++ turn ∷ []) frame.turns;
    few = subst (λ (d : Desk D). HaveFew later.turns (max key.faults (view d.disk).faults)) (sym same)
        (few_both past.turns (turn ∷ []) (max key.faults (view was.disk).faults) frame.few
        (few_one turn [] (max key.faults (view was.disk).faults) low (few_none (max key.faults (view was.disk).faults))));
    moment = subst (λ (d : Desk D). turn.now ≤ (view d.disk).now) (sym same) (omega (arith, moment));
    since = subst (λ (d : Desk D). GoesOnSince view key d.disk) (sym same) frame.since;
    run = subst (λ (d : Desk D). Rattle.slot_image_laws.specs.Run.RunFits key.layout key.start later (view d.disk)) (sym same)
        (told_labels_fit (view was.disk) key.layout key.faults core key.start (label.Noted turn) past fits rule moment (frame.laws was.disk) frame.run);
  }

  -- where it is no failure, what was said of faults and slots is said still
  pub noted_fits : (was now : Desk D) → DeskFits view key past was → PastFits key.layout key.faults past → NotedRule key.faults core turn past
      → turn.act ≢ act.Fail → turn.faults ≡ turn_faults was.faults was.failed (view was.disk).faults → turn.now ≡ (view was.disk).now
      → now ≡ record was { turns = now.turns } → now.turns.items ≡ was.turns.items ++ turn ∷ []
      → owed_by key.layout.cores later ≤ now.turns.spare → DeskFits view key later now
  noted_fits was now old fits rule not counts moment same turns room =
      let none : failure_by turn.act turn.faults ≡ None = no_failure turn.act turn.faults not in
      let stays : later.failed ≡ past.failed = ap (option_or past.failed) none ∙ or_none past.failed in
      let kept : now.failed ≡ was.failed = ap (λ (d : Desk D). d.failed) same in
      record {
        frame = noted_frame was now old.frame fits rule (counts_few turn key.faults was.faults was.failed (view was.disk).faults counts old.frame.faults) moment
            (λ i. record (same i) { failed = now.failed }) turns
            (kept ∙ sym (ap (option_or was.failed) none ∙ or_none was.failed));
        room = room;
        faults = subst (λ (z : Option ℕ × Desk D). FaultsFit key.faults z.0 (view z.1.disk).faults) (λ i. (sym stays i, sym same i)) old.faults;
        slots = λ calm. subst (λ (d : Desk D). SlotsFit key.layout past.slots d.slots.items) (sym same) (old.slots (sym stays ∙ calm));
      }
