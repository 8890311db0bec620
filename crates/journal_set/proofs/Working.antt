-- What a core that is at work with the box may note.
use Rattle.std.specs.Prelude.{◌||◌}
use Rattle.std.proofs.Common.{◌≡◌, ◌∷◌, ◌++◌, ◌*◌, ◌<◌, ◌≤◌, ◌∙◌, ℕ, Bool, [], length, option_map, Option, Some, None, inl, inr, refl, sym, ap, subst, arith, true, false, max}
use Rattle.sfs_dev.specs.Disk.{View}
use Rattle.tree_laws.specs.declared.turns.Turn.{Turn}
use Rattle.merge_laws.proofs.Blocks.{same_or_not}
use Rattle.stamp_table.specs.Table.{TableState}
use Rattle.slot_laws.specs.declared.label.Label.TheVariants as label
use Rattle.slot_laws.specs.Labels.{BoxPast, OwnTold, after_label, ends_all, own_label}
use Rattle.slot_laws.proofs.Basics.{at_same, at_other}
use Rattle.commit_ledger.specs.Keeps.{LedgerKeeps}
use Rattle.commit_ledger.specs.View.{open_in}
use Rattle.slot_image_laws.specs.Run.{RunFits}
use Rattle.disk_box.specs.Desk.{GoesOnSince, HaveFew, DeskFits, FaultsFit, FrameFits, open_told, owed_by, owed_of, turn_faults, wait_in}
use Rattle.disk_box.specs.declared.key.BoxKey.{BoxKey}
use Rattle.disk_box.specs.declared.desk.Desk.{Desk}
use Rattle.disk_box.specs.Slots.{SlotsFit}
use Rattle.disk_box.specs.Pens.{PenHand, HoldsBox, past_at, own_at}
use Rattle.disk_box.proofs.Frames.{owed_less}
use Rattle.disk_box.proofs.After.{past_fits_at}
use Rattle.disk_box.proofs.Owes.{owns_own}
use Rattle.journal_set.specs.Ready.{HasNothingDue}
use Rattle.journal_set.proofs.Reserved.{owed_most}

-- no turn waits for a core without a flight
pub learned_none : {D : Type 0} (t : TableState (BoxKey D)) (pen : PenHand D) → HoldsBox t pen → (own_at pen).flight ≡ None
    → (past_at pen).waits pen.view.core ≡ None
learned_none t pen holds idle =
    (past_fits_at t pen holds).flights.idle pen.view.core (ap (λ (o : OwnTold). o.flight) (owns_own t pen holds) ∙ idle)

-- nor for one that has nothing due
pub learned_due : {D : Type 0} (t : TableState (BoxKey D)) (pen : PenHand D) → HoldsBox t pen → HasNothingDue (own_at pen)
    → (past_at pen).waits pen.view.core ≡ None
learned_due t pen holds rests = elim rests [
  | inl over ↦ ((past_fits_at t pen holds).over pen.view.core (ap (λ (o : OwnTold). o.over) (owns_own t pen holds) ∙ over)).0
  | inr none ↦ learned_none t pen holds none.1
]

-- where none has failed, one that has nothing due has reserved no number and has no flight
pub nothing_due : {D : Type 0} (t : TableState (BoxKey D)) (pen : PenHand D) → HoldsBox t pen → (past_at pen).failed ≡ None → HasNothingDue (own_at pen)
    → ((own_at pen).reserved ≡ None) × ((own_at pen).flight ≡ None)
nothing_due t pen holds calm rests = elim rests [
  | inl over ↦ absurd (((past_fits_at t pen holds).over pen.view.core (ap (λ (o : OwnTold). o.over) (owns_own t pen holds) ∙ over)).1 calm)
  | inr none ↦ none
]

-- until a commit has failed a turn has the count of faults of the box
pub calm_faults : {D : Type 0} (view : D → View) (key : BoxKey D) (past : BoxPast) (desk : Desk D) (turn : Turn) → FrameFits view key past desk
    → past.failed ≡ None → turn.faults ≡ turn_faults desk.faults desk.failed (view desk.disk).faults → turn.faults ≡ key.faults
calm_faults view key past desk turn frame calm is =
    is ∙ (ap (λ f. turn_faults desk.faults f (view desk.disk).faults) (frame.failed ∙ calm) ∙ frame.faults)

-- there is room for one turn more beside all that cores may take
pub room_beside : (cores core spare : ℕ) (past : BoxPast) → core < cores → 4 * cores ≤ spare → owed_by cores past < spare
room_beside cores core spare past low room = let most = owed_most cores past in omega (arith, most, low, room)

-- a turn that is noted lets no core take more
owed_noted : (turn : Turn) (own : OwnTold) (waits : Option Turn) → owed_of (own_label (label.Noted turn) own) waits ≤ owed_of own waits
owed_noted turn own (Some t) = omega arith
owed_noted turn own None = by (ends_all turn.act) own.over refl where
  by : (ends over : Bool) → own.over ≡ over → owed_of (record own { told = own.told ++ turn ∷ []; over = ends || own.over }) None ≤ owed_of own None
  by true over is = omega arith
  by false over is = omega arith

pub owed_by_noted : {D : Type 0} (key : BoxKey D) (core n : ℕ) (past : BoxPast) (turn : Turn)
    → owed_by n (after_label key.layout core (label.Noted turn) past) ≤ owed_by n past
owed_by_noted key core n past turn = owed_less n past (after_label key.layout core (label.Noted turn) past) (λ other low. elim (same_or_not other core) [
  | inl same ↦
      subst (λ (o : OwnTold). owed_of o (past.waits other) ≤ owed_of (past.owns other) (past.waits other))
      (sym (at_same past.owns core (own_label (label.Noted turn) (past.owns core)) other same))
      (subst (λ c. owed_of (own_label (label.Noted turn) (past.owns c)) (past.waits other) ≤ owed_of (past.owns other) (past.waits other)) same
      (owed_noted turn (past.owns other) (past.waits other)))
  | inr not ↦
      subst (λ (o : OwnTold). owed_of o (past.waits other) ≤ owed_of (past.owns other) (past.waits other))
      (sym (at_other past.owns core (own_label (label.Noted turn) (past.owns core)) other not)) (omega arith)
])

-- more room for turns leaves a desk fit
pub desk_roomier : {D : Type 0} (view : D → View) (key : BoxKey D) (past : BoxPast) (was now : Desk D) → DeskFits view key past was
    → now ≡ record was { turns = now.turns } → now.turns.items ≡ was.turns.items → was.turns.spare ≤ now.turns.spare → DeskFits view key past now
desk_roomier {D = D} view key past was now old same items more = record {
  frame = record {
    layout = old.frame.layout;
    large = subst (λ (d : Desk D). key.layout.blocks ≤ (view d.disk).size) (sym same) old.frame.large;
    laws = old.frame.laws;
    count = ap (λ (d : Desk D). length d.slots.items) same ∙ old.frame.count;
    cores = ap (λ (d : Desk D). length d.waits.items) same ∙ old.frame.cores;
    waits = λ c. ap (λ (d : Desk D). wait_in d.waits.items c) same ∙ old.frame.waits c;
    ledger = subst (λ (d : Desk D). LedgerKeeps d.ledger past) (sym same) old.frame.ledger;
    places = ap (λ (d : Desk D). length d.ledger.opens) same ∙ old.frame.places;
    opens = λ c. ap (λ (d : Desk D). option_map open_told (open_in d.ledger c)) same ∙ old.frame.opens c;
    stamps = ap (λ (d : Desk D). d.stamps) same ∙ old.frame.stamps;
    faults = ap (λ (d : Desk D). d.faults) same ∙ old.frame.faults;
    failed = ap (λ (d : Desk D). d.failed) same ∙ old.frame.failed;
    turns = items ∙ old.frame.turns;
    few = subst (λ (d : Desk D). HaveFew past.turns (max key.faults (view d.disk).faults)) (sym same) old.frame.few;
    moment = subst (λ (d : Desk D). past.moment ≤ (view d.disk).now) (sym same) old.frame.moment;
    since = subst (λ (d : Desk D). GoesOnSince view key d.disk) (sym same) old.frame.since;
    run = subst (λ (d : Desk D). RunFits key.layout key.start past (view d.disk)) (sym same) old.frame.run;
  };
  room = (let room = old.room in omega (arith, room, more));
  faults = subst (λ (d : Desk D). FaultsFit key.faults past.failed (view d.disk).faults) (sym same) old.faults;
  slots = λ calm. subst (λ (d : Desk D). SlotsFit key.layout past.slots d.slots.items) (sym same) (old.slots calm);
}
