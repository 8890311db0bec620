-- One turn at the box from outside: what others told before it, what its core told then, and what is told of slots and calls.
use Rattle.std.proofs.Common.{◌≡◌, ◌+◌, ◌<◌, ◌≤◌, ◌∷◌, ◌++◌, ◌∙◌, ℕ, List, [], length, cond, Result, Ok, Err, sym, ap, subst, arith, append_assoc}
use Rattle.std.proofs.lemmas.List.{append_cancel_left}
use Rattle.std.proofs.lemmas.List.Elements.{filter-append}
use Rattle.sfs_base.proofs.BasicNumbers.{same_number}
use Rattle.journal_one.specs.Packed.{Contents}
use Rattle.stamp_table.specs.declared.event.Event.{Event}
use Rattle.stamp_table.specs.declared.event.Event.TheVariants.{Told}
use Rattle.stamp_table.specs.Events.{event_core}
use Rattle.stamp_table.specs.Rule.{entries_by, is_by}
use Rattle.stamp_table.specs.Table.{TableState}
use Rattle.slot_laws.specs.declared.label.Label.{Label}
use Rattle.slot_laws.specs.declared.label.Label.TheVariants as label
use Rattle.slot_laws.specs.Labels.{BoxPast, first_past}
use Rattle.slot_laws.specs.Schedule.{AllIdle, OthersIdle, due_in}
use Rattle.slot_laws.specs.Slots.{Slots}
use Rattle.slot_laws.specs.Telling.{device_calls, labels_by}
use Rattle.slot_laws.proofs.DeviceCalls.{device_calls_more}
use Rattle.slot_laws.proofs.NodesTold.{may_parts, past_parts}
use Rattle.disk_box.specs.declared.key.BoxKey.{BoxKey}
use Rattle.disk_box.specs.Box.{LawfulBox, past_of}
use Rattle.disk_box.specs.Counting.{CountsFrom, due_at}
use Rattle.disk_box.specs.Pens.{HoldsBox, PenGoes, PenHand, TakesBox, Tells, calls_at, past_at}
use Rattle.journal_set.specs.declared.fault.CommitFault.{CommitFault}
use Rattle.journal_set.specs.declared.flying.Flight.{Flight}
use Rattle.journal_set.specs.declared.flying.Progress.{Progress}
use Rattle.journal_set.specs.declared.flying.Progress.TheVariants as progress
use Rattle.journal_set.specs.declared.waiting.Beginning.{Beginning}
use Rattle.journal_set.specs.declared.waiting.Beginning.TheVariants as beginning
use Rattle.journal_set.specs.Counting.{BeginsAlone, BeginsInTurn, BeginsOnce, BringsOn, GoesAlone, IsBegunAlone, LeavesDue, WorksInTurn, WorksOnce, past_behind}
use Rattle.journal_set.proofs.AmidTurns.{AreAmid, all_own}
use Rattle.journal_set.proofs.Turned.{core_kept}

-- What is so of a pen outside, as it took the box, as it was about to bring it home, and outside again.
pub record IsAround {D : Type 0} (before at done after : PenHand D) : Type 0 where
  pub turn : GoesAlone before after
  pub took : 0 < length turn.back
  pub slots_in : (past_at at).slots ≡ (past_behind before turn.front).slots
  pub slots_out : (past_at after).slots ≡ (past_at done).slots
  pub calls_in : calls_at at ≡ calls_at before
  pub calls_out : calls_at after ≡ calls_at done

-- a core's own event among its own
own_one : (core : ℕ) (fact : Label) (more : List (Event Label))
    → entries_by event_core core (Told (record { 0 = core }) fact ∷ more) ≡ Told (record { 0 = core }) fact ∷ entries_by event_core core more
own_one core fact more =
    let event : Event Label = Told (record { 0 = core }) fact in
    ap (λ b. cond b (event ∷ entries_by event_core core more) (entries_by event_core core more)) (same_number core)

-- Taken, told and brought home.
module _ {D : Type 0} (t : TableState (BoxKey D)) (before at done after : PenHand D) (takes : TakesBox before at) (goes_in : PenGoes before at)
    (holds_in : HoldsBox t at) (goes : PenGoes at done) (holds_out : HoldsBox t done) (facts : List Label) (tells : Tells facts at done)
    (amid : AreAmid facts) (goes_out : PenGoes done after)
    (mine_in : at.view.mine ≡ before.view.mine ++ Told (record { 0 = before.view.core }) label.Took ∷ [])
    (seen_out : after.view.seen ≡ done.view.seen ++ Told (record { 0 = done.view.core }) label.Gave ∷ [])
    (mine_out : after.view.mine ≡ done.view.mine ++ Told (record { 0 = done.view.core }) label.Gave ∷ []) where
  abbrev key : BoxKey D
  key = at.table.given

  abbrev core : ℕ
  core = before.view.core

  core_at : at.view.core ≡ core
  core_at = core_kept before at goes_in

  core_done : done.view.core ≡ core
  core_done = core_kept at done goes ∙ core_at

  abbrev rest : List (Event Label)
  rest = goes.seen.0

  whole : at.view.seen ++ rest ≡ done.view.seen
  whole = goes.seen.1

  mine_rest : entries_by event_core at.view.core rest ≡ labels_by at.view.core facts
  mine_rest = append_cancel_left at.view.mine (entries_by event_core at.view.core rest) (labels_by at.view.core facts)
      (ap (λ l. l ++ entries_by event_core at.view.core rest) holds_in.mine
      ∙ (sym (filter-append (is_by event_core at.view.core) at.view.seen rest)
      ∙ (ap (entries_by event_core at.view.core) whole
      ∙ (ap (λ c. entries_by event_core c done.view.seen) (sym (core_kept at done goes)) ∙ (sym holds_out.mine ∙ tells)))))

  lawful_rest : LawfulBox key (at.view.seen ++ rest)
  lawful_rest = subst (λ (z : BoxKey D × List (Event Label)). LawfulBox z.0 z.1)
      (λ i. (ap (λ (h : PenHand D). h.table.given) goes.frame i, sym whole i)) holds_out.lawful

  own_rest : entries_by event_core core rest ≡ rest
  own_rest = subst (λ c. entries_by event_core c rest ≡ rest) core_at
      (all_own key.layout key.faults at.view.core rest (past_at at) facts
      (may_parts key.layout key.faults at.view.seen rest (first_past key.start) lawful_rest).1 holds_in.busy mine_rest amid)

  abbrev took_one : Event Label
  took_one = Told (record { 0 = core }) label.Took

  abbrev gave_one : Event Label
  gave_one = Told (record { 0 = core }) label.Gave

  abbrev back : List (Event Label)
  back = took_one ∷ rest ++ gave_one ∷ []

  own_back : entries_by event_core core back ≡ back
  own_back =
      own_one core label.Took (rest ++ gave_one ∷ [])
      ∙ ap (λ l. took_one ∷ l) (filter-append (is_by event_core core) rest (gave_one ∷ [])
      ∙ (λ i. own_rest i ++ own_one core label.Gave [] i))

  seen_back : after.view.seen ≡ (before.view.seen ++ takes.front) ++ back
  seen_back =
      seen_out
      ∙ (ap (λ c. done.view.seen ++ Told (record { 0 = c }) label.Gave ∷ []) core_done
      ∙ (ap (λ l. l ++ gave_one ∷ []) (sym whole)
      ∙ (ap (λ l. (l ++ rest) ++ gave_one ∷ []) takes.seen_is
      ∙ (append_assoc ((before.view.seen ++ takes.front) ++ took_one ∷ []) rest (gave_one ∷ [])
      ∙ append_assoc (before.view.seen ++ takes.front) (took_one ∷ []) (rest ++ gave_one ∷ [])))))

  slots_taken : (past_at at).slots ≡ (past_behind before takes.front).slots
  slots_taken =
      ap (λ l. (past_of key l).slots) takes.seen_is
      ∙ (ap (λ (p : BoxPast). p.slots) (past_parts key.layout key.faults (before.view.seen ++ takes.front) (took_one ∷ []) (first_past key.start))
      ∙ ap (λ (k : BoxKey D). (past_of k (before.view.seen ++ takes.front)).slots) (ap (λ (h : PenHand D). h.table.given) goes_in.frame))

  slots_given : (past_at after).slots ≡ (past_at done).slots
  slots_given =
      ap (λ (z : BoxKey D × List (Event Label)). (past_of z.0 z.1).slots) (λ i. (ap (λ (h : PenHand D). h.table.given) goes_out.frame i, seen_out i))
      ∙ ap (λ (p : BoxPast). p.slots) (past_parts done.table.given.layout done.table.given.faults done.view.seen
      (Told (record { 0 = done.view.core }) label.Gave ∷ []) (first_past done.table.given.start))

  pub around : IsAround before at done after
  around = record {
    turn = record { front = takes.front; back = back; seen_is = seen_back; others = takes.others; own = own_back };
    took = omega arith;
    slots_in = slots_taken;
    slots_out = slots_given;
    calls_in = ap device_calls mine_in
        ∙ (let more = device_calls_more before.view.mine (record { 0 = before.view.core }) label.Took in omega (arith, more));
    calls_out = ap device_calls mine_out
        ∙ (let more = device_calls_more done.view.mine (record { 0 = done.view.core }) label.Gave in omega (arith, more));
  }

-- What a turn at the box comes to, from outside.
module _ {D : Type 0} (before at done after : PenHand D) (around : IsAround before at done after) where
  others_in : (k : ℕ) → OthersIdle (past_behind before around.turn.front).slots k → OthersIdle (past_at at).slots k
  others_in k = subst (λ (s : Slots). OthersIdle s k) (sym around.slots_in)

  others_out : (k : ℕ) → OthersIdle (past_at done).slots k → OthersIdle (past_at after).slots k
  others_out k = subst (λ (s : Slots). OthersIdle s k) (sym around.slots_out)

  due_in_same : (k : ℕ) → due_at (past_at at) k ≡ due_at (past_behind before around.turn.front) k
  due_in_same k = ap (λ (s : Slots). due_in (s k)) around.slots_in

  due_out_same : (k : ℕ) → due_at (past_at after) k ≡ due_at (past_at done) k
  due_out_same k = ap (λ (s : Slots). due_in (s k)) around.slots_out

  counts_around : (k : ℕ) → CountsFrom k (past_at at) (calls_at at) done
      → CountsFrom k (past_behind before around.turn.front) (calls_at before) after
  counts_around k counts alone =
      let down = counts (others_in k alone) in
      record {
        alone = others_out k down.alone;
        counts =
            let one = down.counts in
            let made = around.calls_in in
            let told = around.calls_out in
            let due = due_in_same k in
            let left = due_out_same k in
            omega (arith, one, made, told, due, left);
      }

  once_around : calls_at done ≤ calls_at at + 1 → calls_at after ≤ calls_at before + 1
  once_around once =
      let made = around.calls_in in
      let told = around.calls_out in
      omega (arith, once, made, told)

  leaves_around : (k : ℕ) (did : Progress) → LeavesDue did (due_at (past_at done) k) → LeavesDue did (due_at (past_at after) k)
  leaves_around k progress.Goes leaves = tt
  leaves_around k progress.Filled leaves = tt
  leaves_around k (progress.Durable ack) leaves = due_out_same k ∙ leaves

  brings_around : (was now : Flight) (did : Progress) → BringsOn was now (calls_at at) (calls_at done) did → BringsOn was now (calls_at before) (calls_at
      after) did
  brings_around was now did = subst (λ (z : ℕ × ℕ). BringsOn was now z.0 z.1 did) (λ i. (around.calls_in i, sym around.calls_out i))

  pub works_around : (was now : Flight) (result : Result Progress CommitFault) → WorksOnce was now at done result → WorksInTurn was now before after result
  works_around was now (Err refused) works = record { once = once_around works.once; brings = tt; turn = around.turn; took = around.took; down = tt }
  works_around was now (Ok did) works = record {
    once = once_around works.once;
    brings = brings_around was now did works.brings;
    turn = around.turn;
    took = around.took;
    down = (counts_around was.slot works.down.0, leaves_around was.slot did works.down.1);
  }

  starts_around : (contents : Contents) (did : Beginning) → (AllIdle (past_at at).slots → BeginsAlone contents (calls_at at) done did)
      → AllIdle (past_behind before around.turn.front).slots → BeginsAlone contents (calls_at before) after did
  starts_around contents (beginning.Waits still) starts idle = starts (subst AllIdle (sym around.slots_in) idle)
  starts_around contents (beginning.Begun flight) starts idle =
      let begun : IsBegunAlone contents flight.slot (calls_at at) done = starts (subst AllIdle (sym around.slots_in) idle) in
      record {
        alone = others_out flight.slot begun.alone;
        calls = around.calls_out ∙ (begun.calls ∙ around.calls_in);
        due = due_out_same flight.slot ∙ begun.due;
      }

  pub begins_around : (contents : Contents) (result : Result Beginning CommitFault) → BeginsOnce contents at done result
      → BeginsInTurn contents before after result
  begins_around contents (Err refused) begins = record { once = once_around begins.once; turn = around.turn; took = around.took; starts = tt }
  begins_around contents (Ok did) begins = record {
    once = once_around begins.once;
    turn = around.turn;
    took = around.took;
    starts = starts_around contents did begins.starts;
  }
