-- How many device calls a commit makes, where no other core's turn at the box comes between.
use Rattle.std.specs.Prelude.{◌≡◌, ◌⊎◌, ◌+◌, ◌<◌, ◌≤◌, ◌++◌, ℕ, true, false, List, [], length, Result, IfOk}
use Rattle.journal_one.specs.Packed.{Contents}
use Rattle.stamp_table.specs.declared.event.Event.{Event}
use Rattle.stamp_table.specs.Events.{event_core}
use Rattle.stamp_table.specs.Rule.{entries_by}
use Rattle.slot_laws.specs.declared.label.Label.{Label}
use Rattle.slot_laws.specs.Labels.{BoxPast}
use Rattle.slot_laws.specs.Schedule.{AllIdle, OthersIdle}
use Rattle.disk_box.specs.Box.{past_of}
use Rattle.disk_box.specs.Counting.{CountsDown, CountsFrom, due_at}
use Rattle.disk_box.specs.Pens.{PenHand, calls_at, past_at}
use Rattle.journal_set.specs.declared.fault.CommitFault.{CommitFault}
use Rattle.journal_set.specs.declared.flying.Flight.{Flight}
use Rattle.journal_set.specs.declared.flying.Progress.{Progress}
use Rattle.journal_set.specs.declared.flying.Progress.TheVariants as progress
use Rattle.journal_set.specs.declared.waiting.Beginning.{Beginning}
use Rattle.journal_set.specs.declared.waiting.Beginning.TheVariants as beginning

-- What a pen has seen since it was as before: what others told first, and then what its own core told, and nobody else.
pub record GoesAlone {D : Type 0} (before after : PenHand D) : Type 0 where
  pub front : List (Event Label)
  pub back : List (Event Label)
  pub seen_is : after.view.seen ≡ (before.view.seen ++ front) ++ back
  pub others : entries_by event_core before.view.core front ≡ []
  pub own : entries_by event_core before.view.core back ≡ back

-- what labels come to, with these behind what a pen has seen
abbrev pub past_behind : {D : Type 0} → PenHand D → List (Event Label) → BoxPast
past_behind pen front = past_of pen.table.given (pen.view.seen ++ front)

-- the device calls of a commit's schedule: a write for each fresh block, three for the slot's body, a sync, the write of the gate, and a sync
abbrev pub scheduled_calls : Contents → ℕ
scheduled_calls contents = length contents.fresh + 6

-- A commit has made as many, where no other core told anything between its first turn and its last, and no slot had a commit at its first.
abbrev pub MakesScheduled : {D : Type 0} → Contents → PenHand D → PenHand D → Type 0
MakesScheduled contents before after = (alone : GoesAlone before after) → AllIdle (past_behind before alone.front).slots
    → calls_at after ≡ calls_at before + scheduled_calls contents

-- nothing is due of a commit that is durable
abbrev pub LeavesDue : Progress → ℕ → Type 0
LeavesDue (progress.Durable ack) due = due ≡ 0
LeavesDue _ due = Unit {0}

-- what a turn does that goes on: it makes a device call, or lets others write first, which it may so often yet; or it says that the slot is filled, which was
-- not said before
abbrev pub BringsOn : Flight → Flight → ℕ → ℕ → Progress → Type 0
BringsOn was now before after progress.Goes = (after ≡ before + 1) ⊎ ((after ≡ before) × (now.patience < was.patience))
BringsOn was now before after progress.Filled = (after ≡ before) × (was.told ≡ false) × (now.told ≡ true)
BringsOn was now before after (progress.Durable ack) = after ≡ before

-- A turn of the commit in a slot, while its core has the box: it makes one device call at most, and by so many fewer are due.
pub record WorksOnce {D : Type 0} (was now : Flight) (before after : PenHand D) (result : Result Progress CommitFault) : Type 0 where
  pub once : calls_at after ≤ calls_at before + 1
  pub brings : IfOk result (BringsOn was now (calls_at before) (calls_at after))
  pub down : IfOk result (λ did. CountsDown was.slot before after × LeavesDue did (due_at (past_at after) was.slot))

-- The same, from outside.
pub record WorksInTurn {D : Type 0} (was now : Flight) (before after : PenHand D) (result : Result Progress CommitFault) : Type 0 where
  pub once : calls_at after ≤ calls_at before + 1
  pub brings : IfOk result (BringsOn was now (calls_at before) (calls_at after))
  pub turn : GoesAlone before after
  pub took : 0 < length turn.back
  pub down : IfOk result (λ did.
      CountsFrom was.slot (past_behind before turn.front) (calls_at before) after × LeavesDue did (due_at (past_at after) was.slot))

-- A commit has begun in a slot, with no device call, and no other slot has one: all calls of its schedule are due.
pub record IsBegunAlone {D : Type 0} (contents : Contents) (k made : ℕ) (after : PenHand D) : Type 0 where
  pub alone : OthersIdle (past_at after).slots k
  pub calls : calls_at after ≡ made
  pub due : due_at (past_at after) k ≡ scheduled_calls contents

-- a turn that found no slot with a commit has begun one
abbrev pub BeginsAlone : {D : Type 0} → Contents → ℕ → PenHand D → Beginning → Type 0
BeginsAlone contents made after (beginning.Waits still) = ⊥
BeginsAlone contents made after (beginning.Begun flight) = IsBegunAlone contents flight.slot made after

-- A turn towards a commit's beginning, while its core has the box: it makes one device call at most, and none where no slot has a commit.
pub record BeginsOnce {D : Type 0} (contents : Contents) (before after : PenHand D) (result : Result Beginning CommitFault) : Type 0 where
  pub once : calls_at after ≤ calls_at before + 1
  pub starts : IfOk result (λ did. AllIdle (past_at before).slots → BeginsAlone contents (calls_at before) after did)

-- The same, from outside.
pub record BeginsInTurn {D : Type 0} (contents : Contents) (before after : PenHand D) (result : Result Beginning CommitFault) : Type 0 where
  pub once : calls_at after ≤ calls_at before + 1
  pub turn : GoesAlone before after
  pub took : 0 < length turn.back
  pub starts : IfOk result (λ did. AllIdle (past_behind before turn.front).slots → BeginsAlone contents (calls_at before) after did)

-- all of them: the first that found no slot with a commit has begun one
abbrev pub BeginsScheduled : {D : Type 0} → Contents → PenHand D → PenHand D → Flight → Type 0
BeginsScheduled contents before after flight = (alone : GoesAlone before after) → AllIdle (past_behind before alone.front).slots
    → IsBegunAlone contents flight.slot (calls_at before) after

-- and of a commit in a slot: as many device calls as were due, where nobody else told anything since
abbrev pub LandsScheduled : {D : Type 0} → ℕ → PenHand D → PenHand D → Type 0
LandsScheduled k before after = (back : List (Event Label)) → after.view.seen ≡ before.view.seen ++ back
    → entries_by event_core before.view.core back ≡ back → OthersIdle (past_at before).slots k
    → calls_at after ≡ calls_at before + due_at (past_at before) k
