-- How many turns cores may take yet, as one of them takes its last ones.
use Rattle.std.specs.Prelude.{◌||◌}
use Rattle.std.proofs.Common.{◌≡◌, ◌≢◌, ◌⊎◌, ◌+◌, ◌<◌, ◌≤◌, ◌∙◌, ℕ, zero, suc, true, Option, Some, None, inl, inr, refl, sym, ap, arith}
use Rattle.tree_laws.specs.declared.turns.Turn.{Turn}
use Rattle.tree_laws.specs.declared.turns.TurnAct.{TurnAct}
use Rattle.tree_laws.specs.declared.turns.TurnAct.TheVariants as act
use Rattle.merge_laws.proofs.Blocks.{same_or_not}
use Rattle.stamp_table.specs.Table.{TableState}
use Rattle.slot_laws.specs.Labels.{ends_all, BoxPast, OwnTold, after_label, own_label, own_from, nothing_told}
use Rattle.slot_laws.specs.declared.label.Label.{Label}
use Rattle.slot_laws.specs.declared.label.Label.TheVariants as label
use Rattle.slot_laws.proofs.Lawful.{own_is}
use Rattle.disk_box.specs.declared.key.BoxKey.{BoxKey}
use Rattle.disk_box.specs.declared.desk.Desk.{Desk}
use Rattle.disk_box.specs.Desk.{RoomFits, owed_by, owed_of}
use Rattle.disk_box.specs.Pens.{PenHand, past_at, own_at, HoldsBox, TellsLabel}
use Rattle.disk_box.proofs.Frames.{owed_taken, own_after, others_after}

-- what a core told that has the box is what all labels make of it
pub owns_own : {D : Type 0} (t : TableState (BoxKey D)) (pen : PenHand D) → HoldsBox t pen → (past_at pen).owns pen.view.core ≡ own_at pen
owns_own t pen holds =
    own_is pen.table.given.layout pen.view.seen pen.view.core pen.table.given.start
    ∙ ap (λ l. own_from l nothing_told) (sym holds.mine)

-- a core may take no more than all
pub owed_within : (n core : ℕ) (past : BoxPast) → core < n → owed_of (past.owns core) (past.waits core) ≤ owed_by n past
owed_within zero core past low = absurd (omega arith)
owed_within (suc n) core past low = elim (same_or_not core n) [
  | inl same ↦
      let here : owed_of (past.owns n) (past.waits n) ≡ owed_of (past.owns core) (past.waits core) =
      ap (λ c. owed_of (past.owns c) (past.waits c)) (sym same)
      in
      omega (arith, here)
  | inr not ↦ (let rest = owed_within n core past (omega (arith, low, not)) in omega (arith, rest))
]

-- one that may take a turn has room for it
pub room_for : {D : Type 0} (key : BoxKey D) (core k : ℕ) (past : BoxPast) (desk : Desk D) → core < key.layout.cores → RoomFits key past desk
    → past.waits core ≡ None → k ≤ owed_of (past.owns core) None → k ≤ desk.turns.spare
room_for key core k past desk low room learned owes =
    let within = owed_within key.layout.cores core past low in
    let here : owed_of (past.owns core) (past.waits core) ≡ owed_of (past.owns core) None = ap (owed_of (past.owns core)) learned in
    omega (arith, within, here, room, owes)

-- one whose last turn has come takes none any more
pub owed_over : (own : OwnTold) (waits : Option Turn) → own.over ≡ true → owed_of own waits ≡ 0
owed_over own (Some turn) over = refl
owed_over own None over = rw over refl

-- so what it owed is owed no more
pub owed_ends : (n core k : ℕ) (old new : BoxPast) → core < n → k ≤ owed_of (old.owns core) (old.waits core) → (new.owns core).over ≡ true
    → ((other : ℕ) → other ≢ core → new.owns other ≡ old.owns other) → ((other : ℕ) → new.waits other ≡ old.waits other)
    → owed_by n new + k ≤ owed_by n old
owed_ends n core k old new low owes over others waits =
    let none = owed_over (new.owns core) (new.waits core) over in
    owed_taken n core k old new low (omega (arith, none, owes)) (λ other below not.
    let same : owed_of (new.owns other) (new.waits other) ≡ owed_of (old.owns other) (old.waits other) =
    λ i. owed_of (others other not i) (waits other i)
    in
    omega (arith, same))

-- of the others nothing is told with a label
pub others_told : {D : Type 0} (before after : PenHand D) (fact : Label) → TellsLabel fact before after → (other : ℕ) → other ≢ before.view.core
    → (past_at after).owns other ≡ (past_at before).owns other
others_told before after fact tells other not =
    ap (λ (p : BoxPast). p.owns other) tells.past ∙ others_after before.table.given.layout before.view.core fact (past_at before) other not

-- a failure is a core's last turn
pub last_over : (turn : Turn) (own : OwnTold) → turn.act ≡ act.Fail → (own_label (label.Noted turn) own).over ≡ true
last_over turn own fails = ap (λ (w : TurnAct). ends_all w || own.over) fails

-- one that ends leaves room for the others
pub ended_room : {D : Type 0} (key : BoxKey D) (core : ℕ) (past : BoxPast) (turn : Turn) (desk : Desk D) → core < key.layout.cores
    → ends_all turn.act ≡ true → past.waits core ≡ None → RoomFits key past desk
    → (owed_by key.layout.cores past < desk.turns.spare) ⊎ (0 < owed_of (past.owns core) None)
    → owed_by key.layout.cores (after_label key.layout core (label.Noted turn) past) < desk.turns.spare
ended_room key core past turn desk low ends learned fits room =
    let later = after_label key.layout core (label.Noted turn) past in
    let over : (later.owns core).over ≡ true = ap (λ (o : OwnTold). o.over) (own_after key.layout core (label.Noted turn) past)
    ∙ ap (λ b. b || (past.owns core).over) ends
    in
    let others = others_after key.layout core (label.Noted turn) past in
    let here : owed_of (past.owns core) (past.waits core) ≡ owed_of (past.owns core) None = ap (owed_of (past.owns core)) learned in
    elim room [
      | inl spare ↦ (let less = owed_ends key.layout.cores core 0 past later low (omega arith) over others (λ other. refl) in omega (arith, less, spare))
      | inr owes ↦ (let less = owed_ends key.layout.cores core 1 past later low (omega (arith, owes, here)) over others (λ other. refl) in omega (arith, less, fits))
    ]
