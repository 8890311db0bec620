-- A commit that fails.
use Rattle.std.specs.Option.{option_or}
use Rattle.std.proofs.Common.{◌≡◌, ◌≤◌, ◌∷◌, ◌++◌, ◌∙◌, ℕ, [], Option, Some, None, sym, ap, subst, arith}
use Rattle.sfs_base.proofs.BasicOptions.{or_none, some_not_none}
use Rattle.sfs_dev.specs.Disk.{View}
use Rattle.tree_laws.specs.declared.turns.Turn.{Turn}
use Rattle.tree_laws.specs.declared.turns.TurnAct.{TurnAct}
use Rattle.tree_laws.specs.declared.turns.TurnAct.TheVariants as act
use Rattle.turn_laws.specs.Books.{CountsFaults}
use Rattle.merge_laws.specs.Pens.{failure_by}
use Rattle.stamp_table.specs.Table.{TableState}
use Rattle.slot_laws.specs.Labels.{BoxPast, after_label}
use Rattle.slot_laws.specs.Rules.{NotedRule}
use Rattle.slot_laws.specs.declared.label.Label.TheVariants as label
use Rattle.disk_box.specs.declared.key.BoxKey.{BoxKey}
use Rattle.disk_box.specs.declared.desk.Desk.{Desk}
use Rattle.disk_box.specs.Box.{SpaceFits}
use Rattle.disk_box.specs.Desk.{FaultsFit, FrameFits, owed_by}
use Rattle.disk_box.specs.Pens.{PenHand, past_at, HoldsBox, TellsLabel, IsAtDesk}
use Rattle.disk_box.proofs.After.{at_told, failed_told, frame_told, past_fits_at, space_told}
use Rattle.disk_box.proofs.Noted.{noted_frame}

-- A failure is noted, and the desk keeps it: it fits, whatever its slots are.
module _ {D : Type 0} (view : D → View) (t : TableState (BoxKey D)) (before after : PenHand D) (turn : Turn) (was now : Desk D) where
  abbrev key : BoxKey D
  key = before.table.given

  abbrev later : BoxPast
  later = after_label key.layout before.view.core (label.Noted turn) (past_at before)

  fail_failed : (past_at before).failed ≡ None → turn.act ≡ act.Fail → later.failed ≡ Some turn.faults
  fail_failed calm fails =
      ap (λ (w : TurnAct). option_or (past_at before).failed (failure_by w turn.faults)) fails ∙ ap (λ o. option_or o (Some turn.faults)) calm

  pub fail_at : HoldsBox t before → HoldsBox t after → TellsLabel (label.Noted turn) before after → FrameFits view key (past_at before) was
      → SpaceFits key before.view.seen was → (past_at before).failed ≡ None → NotedRule key.faults before.view.core turn (past_at before)
      → turn.act ≡ act.Fail → (turn.faults ≡ (view was.disk).faults) × (turn.now ≡ (view was.disk).now)
      → now ≡ record was { turns = now.turns; failed = Some turn.faults } → now.turns.items ≡ was.turns.items ++ turn ∷ []
      → owed_by key.layout.cores later ≤ now.turns.spare → IsAtDesk view t after now
  fail_at held holds tells frame space calm rule fails moment same turns room =
      let failed = fail_failed calm fails in
      at_told view t before after (label.Noted turn) holds tells was now space
      (ap (λ (d : Desk D). d.ledger.space) same) (record {
        frame = noted_frame view key before.view.core (past_at before) turn was now frame (past_fits_at t before held) rule
            (let counts = moment.0 in omega (arith, counts)) moment.1
            (same ∙ (λ i. record was { turns = now.turns; failed = sym (ap (λ (d : Desk D). d.failed) same) i })) turns
            (ap (λ (d : Desk D). d.failed) same
            ∙ (sym (ap (λ o. option_or o (Some turn.faults)) (frame.failed ∙ calm))
            ∙ sym (ap (λ (w : TurnAct). option_or was.failed (failure_by w turn.faults)) fails)));
        room = room;
        faults = subst (λ (z : Option ℕ × Desk D). FaultsFit key.faults z.0 (view z.1.disk).faults) (λ i. (sym failed i, sym same i))
            (let counts = moment.0 in omega (arith, counts));
        slots = λ none. absurd (some_not_none (sym failed ∙ none));
      })

-- A commit begins that has failed: a turn is noted, and all but the room for turns goes on.
pub record GoesOnBroken {D : Type 0} (view : D → View) (core : ℕ) (mid : PenHand D) (now : Desk D) : Type 0 where
  pub frame : FrameFits view mid.table.given (past_at mid) now
  pub space : SpaceFits mid.table.given mid.view.seen now
  pub calm : (past_at mid).failed ≡ None
  pub learned : (past_at mid).waits core ≡ None

pub cut_goes_on : {D : Type 0} (view : D → View) (t : TableState (BoxKey D)) (before mid : PenHand D) (turn : Turn) (was now : Desk D) → HoldsBox t before
    → HoldsBox t mid → TellsLabel (label.Noted turn) before mid → FrameFits view before.table.given (past_at before) was
    → SpaceFits before.table.given before.view.seen was → (past_at before).failed ≡ None → (past_at before).waits before.view.core ≡ None
    → NotedRule before.table.given.faults before.view.core turn (past_at before) → turn.act ≡ act.CutAt → turn.now ≡ (view was.disk).now
    → now ≡ record was { turns = now.turns } → now.turns.items ≡ was.turns.items ++ turn ∷ [] → GoesOnBroken view before.view.core mid now
cut_goes_on {D = D} view t before mid turn was now held holds tells frame space calm learned rule cuts moment same turns =
    let key = before.table.given in
    let none : failure_by turn.act turn.faults ≡ None = ap (λ (w : TurnAct). failure_by w turn.faults) cuts in
    let kept : now.failed ≡ was.failed = ap (λ (d : Desk D). d.failed) same in
    let counted : turn.faults ≡ key.faults = subst (λ (z : Option ℕ × TurnAct). CountsFaults key.faults turn.faults z.0 z.1 turn.faults)
    (λ i. (calm i, cuts i)) rule.now.counts in
    record {
      frame = frame_told view t before mid (label.Noted turn) holds tells now
          (noted_frame view key before.view.core (past_at before) turn was now frame (past_fits_at t before held) rule (omega (arith, counted)) moment
          (same ∙ (λ i. record was { turns = now.turns; failed = sym kept i })) turns (kept ∙ sym (ap (option_or was.failed) none ∙ or_none was.failed)));
      space = space_told view t before mid (label.Noted turn) holds tells was now space (ap (λ (d : Desk D). d.ledger.space) same);
      calm = failed_told view t before mid (label.Noted turn) holds tells None (ap (option_or (past_at before).failed) none ∙ (or_none (past_at before).failed ∙ calm));
      learned = ap (λ (p : BoxPast). p.waits before.view.core) tells.past ∙ learned;
    }
