-- Nothing is due of a core behind each call of the journals.
use Rattle.std.proofs.Common.{◌≡◌, ◌∙◌, ◌||◌, ◌<◌, ◌⊎◌, ℕ, Bool, true, false, Option, Some, None, Result, Ok, Err, inl, inr, refl, sym, ap, subst}
use Rattle.sfs_base.proofs.BasicTruth.{true_not_false}
use Rattle.tree_laws.specs.declared.turns.Turn.{Turn}
use Rattle.cut_laws.specs.Closure.{Flush}
use Rattle.space_map.specs.Space.{GrantedNumbers}
use Rattle.stamp_table.specs.Table.{TableState}
use Rattle.slot_laws.specs.Labels.{OwnTold, ends_all, own_label}
use Rattle.slot_laws.specs.declared.label.Label.TheVariants as label
use Rattle.disk_box.specs.declared.key.BoxKey.{BoxKey}
use Rattle.disk_box.specs.Pens.{IsOutside, PenHand, own_at}
use Rattle.disk_box.specs.Turns.{FailsBegun, Halts}
use Rattle.journal_set.specs.declared.fault.Ack.{Ack}
use Rattle.journal_set.specs.declared.fault.CommitFault.{CommitFault}
use Rattle.journal_set.specs.declared.fault.CommitFault.TheVariants as fault
use Rattle.journal_set.specs.Committing.{Commits}
use Rattle.journal_set.specs.Emptying.{Empties}
use Rattle.journal_set.specs.Ready.{HasNothingDue, IsReady}
use Rattle.journal_set.specs.Reserving.{ReserveRequest, Reserves}
use Rattle.journal_set.specs.Returning.{ReturnsNumber}
use Rattle.fsync_commit.specs.Granting.{IsGranted}

or_last : (one other : Bool) → other ≡ true → (one || other) ≡ true
or_last true other is = refl
or_last false other is = is

-- a turn that is noted makes nothing due
rests_noted : (turn : Turn) (own : OwnTold) → HasNothingDue own → HasNothingDue (own_label (label.Noted turn) own)
rests_noted turn own (inl over) = inl (or_last (ends_all turn.act) own.over over)
rests_noted turn own (inr none) = inr none

-- a core that was halted, or whose commit failed, is stopped
halted : (number : ℕ) (flush : Flush) (core : ℕ) (before after : OwnTold) → Halts number flush core before after → after.over ≡ true
halted number flush core before after halts =
    ap (λ (o : OwnTold). o.over) halts.after_is ∙ ap (λ b. b || before.over) (ap ends_all halts.by.did_is)

failed : (number : ℕ) (flush : Flush) (core faults : ℕ) (before after : OwnTold) → FailsBegun number flush core faults before after → after.over ≡ true
failed number flush core faults before after fails =
    ap (λ (o : OwnTold). o.over) fails.after_is ∙ ap (λ b. b || before.over) (ap ends_all fails.by.did_is)

-- one that gave back rests
pub returned : (core : ℕ) (flush : Flush) (before after : OwnTold) → ReturnsNumber core flush before after → before.flight ≡ None → HasNothingDue after
returned core flush before after it idle =
    inr (ap (λ (o : OwnTold). o.reserved) it.after_is, ap (λ (o : OwnTold). o.flight) it.after_is ∙ idle)

-- Behind a commit it rests, or is stopped.
pub committed : (core : ℕ) (flush : Flush) (before after : OwnTold) (given : Result Ack CommitFault) → Commits core flush before after given
    → before.flight ≡ None → HasNothingDue after
committed core flush before after (Ok ack) it idle = inr (ap (λ (o : OwnTold). o.reserved) it.after_is, ap (λ (o : OwnTold). o.flight) it.after_is)
committed core flush before after (Err (fault.DiskFailed faults)) it idle = elim it.fails [
  | inl shut ↦ inl (failed it.number flush core faults _ after shut.1.fails)
  | inr opened ↦ inl (failed it.number flush core faults it.middle after opened.1)
]
committed core flush before after (Err (fault.NoSpace kind need free)) it idle = absurd it
committed core flush before after (Err (fault.Stopped faults)) it idle = inl (halted it.number flush core it.middle after it.halts)
committed core flush before after (Err (fault.Moved node last)) it idle = absurd it
committed core flush before after (Err fault.NoMemory) it idle = returned core flush before after it idle

module _ {D : Type 0} (before after : PenHand D) where
  -- Behind a refusal it rests.
  pub refused : (asked : ReserveRequest) (why : CommitFault) → Reserves asked before after (Err why) → HasNothingDue (own_at before)
      → HasNothingDue (own_at after)
  refused asked (fault.DiskFailed faults) it due = absurd it
  refused asked (fault.NoSpace kind need free) it due = subst HasNothingDue (sym it.own) (rests_noted it.turn (own_at before) due)
  refused asked (fault.Stopped faults) it due = inl (halted 0 asked.flush before.view.core (own_at before) (own_at after) it.halts)
  refused asked (fault.Moved node last) it due = subst HasNothingDue (sym it.own) due
  refused asked fault.NoMemory it due = subst HasNothingDue (sym it) due

  -- So it does behind a commit without records.
  pub emptied : (asked : ReserveRequest) (given : Result Ack CommitFault) → Empties asked before after given → HasNothingDue (own_at before)
      → HasNothingDue (own_at after)
  emptied asked (Ok ack) it (inl over) = inl (ap (λ (o : OwnTold). o.over) it.ends.after_is ∙ over)
  emptied asked (Ok ack) it (inr none) =
      inr (ap (λ (o : OwnTold). o.reserved) it.ends.after_is, ap (λ (o : OwnTold). o.flight) it.ends.after_is ∙ none.1)
  emptied asked (Err (fault.DiskFailed faults)) it due = absurd it
  emptied asked (Err (fault.NoSpace kind need free)) it due = absurd it
  emptied asked (Err (fault.Stopped faults)) it due = inl (halted 0 asked.flush before.view.core (own_at before) (own_at after) it.halts)
  emptied asked (Err (fault.Moved node last)) it due = subst HasNothingDue (sym it.own) due
  emptied asked (Err fault.NoMemory) it due = subst HasNothingDue (sym it) due

  idle : (asked : ReserveRequest) (grant : GrantedNumbers) → Reserves asked before after (Ok grant) → HasNothingDue (own_at before)
      → (own_at before).flight ≡ None
  idle asked grant it (inl over) = absurd (true_not_false (sym over ∙ it.goes_on))
  idle asked grant it (inr none) = none.1

  -- A core that reserved is granted.
  pub granted : (t : TableState (BoxKey D)) (asked : ReserveRequest) (grant : GrantedNumbers) → IsReady t before → IsOutside t after → after.room ≡ before.room
      → Reserves asked before after (Ok grant) → IsGranted t after grant
  granted t asked grant ready outside room it = record {
    outside = outside;
    room = subst (λ n. 0 < n) (sym room) ready.room;
    grant_is = it.grant_is;
    goes_on = ap (λ (o : OwnTold). o.over) it.own ∙ (ap (λ b. b || (own_at before).over) (ap ends_all it.by.did_is) ∙ it.goes_on);
    no_flight = ap (λ (o : OwnTold). o.flight) it.own ∙ idle asked grant it ready.rests;
  }

  -- A pen outside of the box, with as much room as before, may begin anew where nothing is due.
  pub ready_now : (t : TableState (BoxKey D)) → IsOutside t after → after.room ≡ before.room → 0 < before.room → HasNothingDue (own_at after) → IsReady t after
  ready_now t outside room some rests = record { outside = outside; room = subst (λ n. 0 < n) (sym room) some; rests = rests }
