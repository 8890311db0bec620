-- Of how many device calls a core tells where it begins a commit, learns that it is durable, or ends it.
use Rattle.std.specs.Prelude.{slice_get}
use Rattle.std.proofs.Common.{◌≡◌, ◌≢◌, ◌⊎◌, ◌+◌, ◌∷◌, ◌∙◌, ℕ, Bool, true, false, List, [], length, Option, Some, None, inl, inr, refl, sym, ap, arith}
use Rattle.sfs_base.proofs.BasicOptions.{none_some, some_same}
use Rattle.sfs_dev.specs.Disk.{View}
use Rattle.journal_one.specs.Packed.{Contents}
use Rattle.tree_laws.specs.declared.turns.Turn.{Turn}
use Rattle.cut_laws.specs.Closure.{Flush}
use Rattle.stamp_table.specs.Table.{TableState}
use Rattle.slot_laws.specs.declared.label.Label.{Label}
use Rattle.slot_laws.specs.declared.label.Label.TheVariants as label
use Rattle.slot_laws.specs.Fits.{PastFits}
use Rattle.slot_laws.specs.Labels.{BoxPast, OwnTold, fsync_told, owner}
use Rattle.slot_laws.specs.Schedule.{AllIdle, OthersIdle, calls_due, due_in}
use Rattle.slot_laws.specs.Slots.{SlotWork, begun_work}
use Rattle.slot_laws.specs.Telling.{device_calls, labels_by}
use Rattle.slot_laws.proofs.Basics.{at_other, at_same}
use Rattle.slot_laws.proofs.DeviceCalls.{device_calls_append}
use Rattle.slot_laws.proofs.Schedule.{beginnings_take_all}
use Rattle.disk_box.specs.declared.key.BoxKey.{BoxKey}
use Rattle.disk_box.specs.declared.desk.Desk.{Desk}
use Rattle.disk_box.specs.declared.desk.Slot.{Slot}
use Rattle.disk_box.specs.declared.kind.Kind.{Kind}
use Rattle.disk_box.specs.declared.kind.Kind.TheVariants as kind
use Rattle.disk_box.specs.Counting.{CountsDown, due_at}
use Rattle.disk_box.specs.Kind.{HasKind, kind_of}
use Rattle.disk_box.specs.Pens.{IsAtDesk, PenHand, Tells, TellsLabel, WorksAtDesk, calls_at, own_at, past_at}
use Rattle.disk_box.specs.Turns.{TellsBegunFailure, TellsFailure, TellsHalt}
use Rattle.disk_box.proofs.After.{past_fits_at}
use Rattle.disk_box.proofs.AtSlots.{told_at}
use Rattle.disk_box.proofs.Due.{settled_due}
use Rattle.disk_box.proofs.Owes.{owns_own}
use Rattle.disk_box.proofs.Phases.{has_commit}
use Rattle.disk_box.proofs.StepsTold.{no_call_told}
use Rattle.journal_set.specs.declared.flying.Flight.{Flight}
use Rattle.journal_set.specs.declared.flying.Progress.{Progress}
use Rattle.journal_set.specs.declared.flying.Progress.TheVariants as progress
use Rattle.journal_set.specs.Flying.{IsUnderWay, NotLanded, flight_of}
use Rattle.journal_set.specs.Counting.{IsBegunAlone, LeavesDue}
use Rattle.journal_set.proofs.Begun.{Begin, label_of}

module _ {D : Type 0} (before after : PenHand D) where
  -- labels that tell of no device call leave their number
  told_more : (facts : List Label) → Tells facts before after
      → calls_at after ≡ calls_at before + device_calls (labels_by before.view.core facts)
  told_more facts tells =
      ap device_calls tells ∙ device_calls_append before.view.mine (labels_by before.view.core facts)

  pub halt_calls : (number : ℕ) (flush : Flush) → TellsHalt number flush before after → calls_at after ≡ calls_at before
  halt_calls number flush tells = let more = told_more (label.Noted tells.turn ∷ []) tells.mine_is in omega (arith, more)

  pub fail_calls : (number faults : ℕ) (flush : Flush) → TellsFailure number flush before after faults → calls_at after ≡ calls_at before
  fail_calls number faults flush tells =
      let more = told_more (label.Noted tells.cut ∷ label.Noted tells.fail ∷ []) tells.mine_is in omega (arith, more)

  pub fail_begun_calls : (number faults : ℕ) (flush : Flush) → TellsBegunFailure number flush before after faults → calls_at after ≡ calls_at before
  fail_begun_calls number faults flush tells = let more = told_more (label.Noted tells.fail ∷ []) tells.mine_is in omega (arith, more)

-- a commit begins in a slot with no call, and all of its schedule are due where no slot has one
module _ {D : Type 0} (b : Begin) (before after : PenHand D) (tells : TellsLabel (label_of b) before after) where
  pub begin_calls : calls_at after ≡ calls_at before
  begin_calls = no_call_told before after (label_of b) tells refl

  pub begun_due : (contents : Contents) (k : ℕ) → b.filling.job.place.slot ≡ k → b.filling.job.fresh ≡ contents.fresh → AllIdle (past_at before).slots
      → IsBegunAlone contents k (calls_at before) after
  begun_due contents k slot_is fresh_is idle =
      let work = Some (begun_work b.filling.job b.number (fsync_told b.node b.stamp)) in
      let slots = (past_at before).slots in
      let now : (past_at after).slots k ≡ work =
      ap (λ (p : BoxPast). p.slots k) tells.past ∙ at_same slots b.filling.job.place.slot work k (sym slot_is)
      in
      record {
        alone = λ j not. ap (λ (p : BoxPast). p.slots j) tells.past
            ∙ (at_other slots b.filling.job.place.slot work j (λ e. not (e ∙ slot_is)) ∙ idle j);
        calls = begin_calls;
        due =
            let due = ap due_in now ∙ beginnings_take_all b.filling.job b.number (fsync_told b.node b.stamp) in
            let count = ap length fresh_is in
            omega (arith, due, count);
      }

module _ {D : Type 0} (view : D → View) (t : TableState (BoxKey D)) (pen : PenHand D) (desk : Desk D) where
  -- where no other slot has a commit, none is in such a phase
  pub not_elsewhere : (k j : ℕ) (one other : Kind) → WorksAtDesk view t pen desk → OthersIdle (past_at pen).slots k → HasKind desk.slots.items k one
      → HasKind desk.slots.items j other → has_commit other ≡ true → one ≢ other → ⊥
  not_elsewhere k j one other work alone here there commit apart =
      let told = told_at view t pen desk j other work there commit in
      let not : j ≢ k = λ e.
      apart (sym here.kind_is ∙ (ap (λ (s : Slot). kind_of s.phase)
      (some_same (sym here.there ∙ (ap (slice_get desk.slots.items) (sym e) ∙ there.there))) ∙ there.kind_is))
      in
      none_some (sym (alone j not) ∙ told.there)

  -- no call is due of a commit of which a turn waits for its core
  pub landed_due : (turn : Turn) (flight : Flight) (opened : Bool) → IsAtDesk view t pen desk → (past_at pen).waits pen.view.core ≡ Some turn
      → IsUnderWay flight opened (own_at pen) → due_at (past_at pen) flight.slot ≡ 0
  landed_due turn flight opened at waits under = by ((past_at pen).slots flight.slot) refl where
    fits : PastFits pen.table.given.layout pen.table.given.faults (past_at pen)
    fits = past_fits_at t pen at.holds

    own : owner pen.table.given.layout flight.slot ≡ pen.view.core
    own = (fits.flights.each pen.view.core (flight_of flight opened)
        (ap (λ (o : OwnTold). o.flight) (owns_own t pen at.holds) ∙ under.flies)).own

    settled_so : (work : SlotWork) → (past_at pen).slots flight.slot ≡ Some work → (settled : Bool) → work.settled ≡ settled
        → calls_due work ≡ 0
    settled_so work there true settled = settled_due work settled
    settled_so work there false settled =
        let aloft = fits.flights.aloft flight.slot work there settled in
        absurd (none_some (sym aloft.flies.none ∙ (ap (past_at pen).waits own ∙ waits)))

    by : (told : Option SlotWork) → (past_at pen).slots flight.slot ≡ told → due_in ((past_at pen).slots flight.slot) ≡ 0
    by None is = ap due_in is
    by (Some work) is = ap due_in is ∙ settled_so work is work.settled refl

-- what is told of learning leaves the slots and the calls
pub learned_down : {D : Type 0} (k : ℕ) (before after : PenHand D) (turn : Turn) → TellsLabel (label.Learned turn) before after → CountsDown k before after
learned_down k before after turn tells alone = record {
  alone = λ j not. ap (λ (p : BoxPast). p.slots j) tells.past ∙ alone j not;
  counts =
      let calls = no_call_told before after (label.Learned turn) tells refl in
      let due = ap (λ (p : BoxPast). due_in (p.slots k)) tells.past in
      omega (arith, calls, due);
}

-- where nothing is told nothing goes down
pub still_down : {D : Type 0} (k : ℕ) (pen : PenHand D) → CountsDown k pen pen
still_down k pen alone = record { alone = alone; counts = refl }

-- a commit that has not landed may have calls due
pub leaves_none : (did : Progress) → NotLanded did → (due : ℕ) → LeavesDue did due
leaves_none progress.Goes not due = tt
leaves_none progress.Filled not due = tt
leaves_none (progress.Durable ack) not due = absurd not

-- a slot has one phase
same_kind : (slots : List Slot) (k : ℕ) (one other : Kind) → HasKind slots k one → HasKind slots k other → one ≡ other
same_kind slots k one other first second =
    sym first.kind_is ∙ (ap (λ (s : Slot). kind_of s.phase) (some_same (sym first.there ∙ second.there)) ∙ second.kind_is)

-- one that is being filled, or was, and is not being filled was filled
pub was_filled : (slots : List Slot) (k : ℕ) (what : Kind) → HasKind slots k what → what ≢ kind.Filling
    → HasKind slots k kind.Filling ⊎ HasKind slots k kind.Filled → HasKind slots k kind.Filled
was_filled slots k what has not either = elim either [
  | inl filling ↦ absurd (not (same_kind slots k what kind.Filling has filling))
  | inr filled ↦ filled
]
