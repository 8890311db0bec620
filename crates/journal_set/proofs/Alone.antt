-- Turns of a commit one after the other, where nobody else told anything between.
use Rattle.std.proofs.Common.{◌≡◌, ◌⊎◌, ◌<◌, ◌∷◌, ◌++◌, ◌∙◌, ℕ, List, [], length, Result, Ok, Err, IfOk, inl, inr, refl, sym, ap, subst, arith, append_assoc, append-nil, length-append}
use Rattle.std.proofs.lemmas.List.{append_cancel_left}
use Rattle.std.proofs.lemmas.List.Elements.{filter-append}
use Rattle.journal_one.specs.Packed.{Contents}
use Rattle.stamp_table.specs.declared.event.Event.{Event}
use Rattle.stamp_table.specs.Events.{event_core}
use Rattle.stamp_table.specs.Rule.{entries_by, is_by}
use Rattle.stamp_table.specs.Table.{TableState}
use Rattle.slot_laws.specs.declared.label.Label.{Label}
use Rattle.slot_laws.specs.Labels.{BoxPast}
use Rattle.slot_laws.specs.Schedule.{AllIdle, OthersIdle}
use Rattle.slot_laws.specs.Telling.{BoxTurn, device_calls, events_in}
use Rattle.disk_box.specs.declared.key.BoxKey.{BoxKey}
use Rattle.disk_box.specs.Box.{past_of}
use Rattle.disk_box.specs.Counting.{CountsFrom, GoesDown, due_at}
use Rattle.disk_box.specs.Pens.{IsOutside, PenGoes, PenHand, calls_at, past_at}
use Rattle.journal_set.specs.declared.fault.Ack.{Ack}
use Rattle.journal_set.specs.declared.fault.CommitFault.{CommitFault}
use Rattle.journal_set.specs.declared.flying.Flight.{Flight}
use Rattle.journal_set.specs.Counting.{BeginsScheduled, GoesAlone, IsBegunAlone, LandsScheduled, MakesScheduled, past_behind}
use Rattle.journal_set.proofs.OwnEvents.{BeginsWith, begins_with, more_passes, parts_pass, same_front}
use Rattle.journal_set.proofs.Turned.{core_kept}

-- what a pen has told is its core's of what it has seen, so where it has seen nothing of its own more it has told nothing more
same_mine : {D : Type 0} (t : TableState (BoxKey D)) (before after : PenHand D) → IsOutside t before → IsOutside t after → (goes : PenGoes before after)
    → entries_by event_core before.view.core goes.seen.0 ≡ [] → after.view.mine ≡ before.view.mine
same_mine t before after first second goes none =
    second.mine
    ∙ (ap (λ c. entries_by event_core c after.view.seen) (core_kept before after goes)
    ∙ (ap (entries_by event_core before.view.core) (sym goes.seen.1)
    ∙ (filter-append (is_by event_core before.view.core) before.view.seen goes.seen.0
    ∙ (ap (λ l. entries_by event_core before.view.core before.view.seen ++ l) none ∙ (append-nil (entries_by event_core before.view.core before.view.seen) ∙
    sym first.mine)))))

-- a list is empty or not
empty_or : (xs : List (Event Label)) → (xs ≡ []) ⊎ (xs ≡ [] → ⊥)
empty_or [] = inl refl
empty_or (x ∷ xs) = inr (λ e. absurd (cc e))

-- A commit in a slot goes on alone.
module _ {D : Type 0} (k : ℕ) (before : PenHand D) where
  -- it has gone down from where it began, where nobody else told anything since
  abbrev pub GoesDownAlone : PenHand D → Type 0
  GoesDownAlone pen = (back : List (Event Label)) → pen.view.seen ≡ before.view.seen ++ back → entries_by event_core before.view.core back ≡ back
      → OthersIdle (past_at before).slots k → GoesDown k (past_at before) (calls_at before) pen

  pub down_first : GoesDownAlone before
  down_first back same own alone = record { alone = alone; counts = refl }

  -- and a turn more
  pub down_more : (mid after : PenHand D) → PenGoes before mid → PenGoes mid after → GoesDownAlone mid → (turn : GoesAlone mid after)
      → CountsFrom k (past_behind mid turn.front) (calls_at mid) after → GoesDownAlone after
  down_more mid after first second was turn counts back same own alone =
      let core = core_kept before mid first in
      let mine = entries_by event_core before.view.core in
      let some = first.seen.0 in
      let whole : before.view.seen ++ back ≡ before.view.seen ++ ((some ++ turn.front) ++ turn.back) =
      sym same
      ∙ (turn.seen_is
      ∙ (ap (λ l. (l ++ turn.front) ++ turn.back) (sym first.seen.1)
      ∙ (ap (λ l. l ++ turn.back) (append_assoc before.view.seen some turn.front)
      ∙ append_assoc before.view.seen (some ++ turn.front) turn.back)))
      in
      let back_is = append_cancel_left before.view.seen back ((some ++ turn.front) ++ turn.back) whole in
      let all : mine ((some ++ turn.front) ++ turn.back) ≡ (some ++ turn.front) ++ turn.back = subst (λ l. mine l ≡ l) back_is own in
      let two = parts_pass (is_by event_core before.view.core) (some ++ turn.front) turn.back all in
      let three = parts_pass (is_by event_core before.view.core) some turn.front two.0 in
      let none : turn.front ≡ [] = sym three.1 ∙ subst (λ c. entries_by event_core c turn.front ≡ []) core turn.others in
      let down = was some (sym first.seen.1) three.0 alone in
      let past_is : past_behind mid turn.front ≡ past_at mid =
      ap (λ l. past_of mid.table.given (mid.view.seen ++ l)) none ∙ ap (past_of mid.table.given) (append-nil mid.view.seen)
      in
      let on : CountsFrom k (past_at mid) (calls_at mid) after = subst (λ (p : BoxPast). CountsFrom k p (calls_at mid) after) past_is counts in
      let last = on down.alone in
      record {
        alone = last.alone;
        counts = (let one = down.counts in let other = last.counts in omega (arith, one, other));
      }

  -- it has landed, with no call due
  pub lands_so : (after : PenHand D) → GoesDownAlone after → due_at (past_at after) k ≡ 0 → LandsScheduled k before after
  lands_so after down none back same own alone = let counts = (down back same own alone).counts in omega (arith, counts, none)

-- where a core has had a turn, its first one has found some slot with a commit
abbrev pub HasFoundSome : {D : Type 0} → PenHand D → PenHand D → Type 0
HasFoundSome before pen = (alone : GoesAlone before pen) → 0 < length alone.back → AllIdle (past_behind before alone.front).slots → ⊥

-- it has had none yet
pub found_first : {D : Type 0} (before : PenHand D) → HasFoundSome before before
found_first before alone some idle =
    let whole : before.view.seen ++ [] ≡ before.view.seen ++ (alone.front ++ alone.back) =
    append-nil before.view.seen ∙ (alone.seen_is ∙ append_assoc before.view.seen alone.front alone.back)
    in
    let none = ap length (append_cancel_left before.view.seen [] (alone.front ++ alone.back) whole) in
    let both = length-append alone.front alone.back in
    absurd (omega (arith, none, both, some))

-- A commit that waits for a slot.
module _ {D : Type 0} (t : TableState (BoxKey D)) (before : PenHand D) (outside : IsOutside t before) where
  -- A turn more.
  module _ (mid after : PenHand D) (first : PenGoes before mid) (again : IsOutside t mid) (found : HasFoundSome before mid) (turn : GoesAlone mid after)
      (took : 0 < length turn.back) where
    abbrev mine : List (Event Label) → List (Event Label)
    mine = entries_by event_core before.view.core

    abbrev some : List (Event Label)
    some = first.seen.0

    core_same : mid.view.core ≡ before.view.core
    core_same = core_kept before mid first

    others : mine turn.front ≡ []
    others = subst (λ c. entries_by event_core c turn.front ≡ []) core_same turn.others

    own : mine turn.back ≡ turn.back
    own = subst (λ c. entries_by event_core c turn.back ≡ turn.back) core_same turn.own

    whole : after.view.seen ≡ before.view.seen ++ ((some ++ turn.front) ++ turn.back)
    whole =
        turn.seen_is
        ∙ (ap (λ l. (l ++ turn.front) ++ turn.back) (sym first.seen.1)
        ∙ (ap (λ l. l ++ turn.back) (append_assoc before.view.seen some turn.front)
        ∙ append_assoc before.view.seen (some ++ turn.front) turn.back))

    -- what was told first, where the core had no turn before
    module _ (alone : GoesAlone before after) where
      parts : alone.front ++ alone.back ≡ (some ++ turn.front) ++ turn.back
      parts = append_cancel_left before.view.seen (alone.front ++ alone.back) ((some ++ turn.front) ++ turn.back)
          (sym (append_assoc before.view.seen alone.front alone.back) ∙ (sym alone.seen_is ∙ whole))

      module _ (none : mine some ≡ []) where
        no_own : mine (some ++ turn.front) ≡ []
        no_own = filter-append (is_by event_core before.view.core) some turn.front ∙ (λ i. none i ++ others i)

        front_is : alone.front ≡ some ++ turn.front
        front_is = same_front (is_by event_core before.view.core) alone.front alone.back (some ++ turn.front) turn.back parts alone.others alone.own no_own own

        past_is : past_behind before alone.front ≡ past_behind mid turn.front
        past_is =
            ap (λ l. past_of before.table.given (before.view.seen ++ l)) front_is
            ∙ (ap (past_of before.table.given) (sym (append_assoc before.view.seen some turn.front) ∙ ap (λ l. l ++ turn.front) first.seen.1)
            ∙ ap (λ (g : BoxKey D). past_of g (mid.view.seen ++ turn.front)) (sym (ap (λ (h : PenHand D). h.table.given) first.frame)))

        calls_same : calls_at mid ≡ calls_at before
        calls_same = ap device_calls (same_mine t before mid outside again first none)

      -- where it had one before
      module _ (had : mine some ≡ [] → ⊥) where
        pieces : (begins : BeginsWith alone.front some) × (alone.back ≡ begins.more ++ (turn.front ++ turn.back))
        pieces = begins_with (is_by event_core before.view.core) alone.front alone.back some (turn.front ++ turn.back)
            (parts ∙ append_assoc some turn.front turn.back) alone.others had

        before_then : GoesAlone before mid
        before_then = record {
          front = alone.front;
          back = pieces.0.more;
          seen_is = sym first.seen.1
              ∙ (ap (λ l. before.view.seen ++ l) pieces.0.is ∙ sym (append_assoc before.view.seen alone.front pieces.0.more));
          others = alone.others;
          own = (parts_pass (is_by event_core before.view.core) pieces.0.more (turn.front ++ turn.back) (subst (λ l. mine l ≡ l) pieces.1 alone.own)).0;
        }

        not_idle : AllIdle (past_behind before alone.front).slots → ⊥
        unfolding before_then pieces
        not_idle = found before_then
            (more_passes (is_by event_core before.view.core) alone.front some pieces.0 alone.others had)

    -- it waits still
    pub found_more : (AllIdle (past_behind mid turn.front).slots → ⊥) → HasFoundSome before after
    found_more waits alone more idle = elim (empty_or (mine some)) [
      | inl none ↦ waits (subst (λ (p : BoxPast). AllIdle p.slots) (past_is alone none) idle)
      | inr had ↦ not_idle alone had idle
    ]

    -- or it has begun
    pub begun_alone : (contents : Contents) (flight : Flight)
        → (AllIdle (past_behind mid turn.front).slots → IsBegunAlone contents flight.slot (calls_at mid) after) → BeginsScheduled contents before after flight
    begun_alone contents flight starts alone idle = elim (empty_or (mine some)) [
      | inl none ↦
          let begun = starts (subst (λ (p : BoxPast). AllIdle p.slots) (past_is alone none) idle) in
          record { alone = begun.alone; calls = begun.calls ∙ calls_same alone none; due = begun.due }
      | inr had ↦ absurd (not_idle alone had idle)
    ]

-- A commit that has begun alone and has landed has made the calls of its schedule.
module _ {D : Type 0} (contents : Contents) (flight : Flight) (before mid after : PenHand D) (first : PenGoes before mid) (second : PenGoes mid after)
    (had : entries_by event_core before.view.core first.seen.0 ≡ [] → ⊥) where
  pub makes_scheduled : BeginsScheduled contents before mid flight → LandsScheduled flight.slot mid after → MakesScheduled contents before after
  makes_scheduled begins lands alone idle =
      let core = core_kept before mid first in
      let parts : alone.front ++ alone.back ≡ first.seen.0 ++ second.seen.0 =
      append_cancel_left before.view.seen (alone.front ++ alone.back) (first.seen.0 ++ second.seen.0)
      (sym (append_assoc before.view.seen alone.front alone.back)
      ∙ (sym alone.seen_is
      ∙ (sym second.seen.1 ∙ (ap (λ l. l ++ second.seen.0) (sym first.seen.1) ∙ append_assoc before.view.seen first.seen.0 second.seen.0))))
      in
      let pieces = begins_with (is_by event_core before.view.core) alone.front alone.back first.seen.0 second.seen.0 parts alone.others had in
      let own = parts_pass (is_by event_core before.view.core) pieces.0.more second.seen.0
      (subst (λ l. entries_by event_core before.view.core l ≡ l) pieces.1 alone.own)
      in
      let begun = begins (record {
        front = alone.front;
        back = pieces.0.more;
        seen_is = sym first.seen.1 ∙ (ap (λ l. before.view.seen ++ l) pieces.0.is ∙ sym (append_assoc before.view.seen alone.front pieces.0.more));
        others = alone.others;
        own = own.0;
      }) idle in
      let landed = lands second.seen.0 (sym second.seen.1) (subst (λ c. entries_by event_core c second.seen.0 ≡ second.seen.0) (sym core) own.1) begun.alone in
      let made = begun.calls in
      let due = begun.due in
      omega (arith, landed, made, due)

-- turns at the box that end with one tell something
some_events : (core : ℕ) (way : List BoxTurn) (last : BoxTurn) → 0 < length (events_in core (way ++ last ∷ []))
some_events core [] last = omega arith
some_events core (one ∷ way) last = omega arith

-- A whole commit, by what its beginning and its landing come to.
module _ {D : Type 0} (t : TableState (BoxKey D)) (before mid after : PenHand D) (outside : IsOutside t before) (again : IsOutside t mid)
    (first : PenGoes before mid) (second : PenGoes mid after) (way : List BoxTurn) (last : BoxTurn)
    (told : mid.view.mine ≡ before.view.mine ++ events_in before.view.core (way ++ last ∷ [])) (contents : Contents) (flight : Flight)
    (begins : BeginsScheduled contents before mid flight) where
  some_own : entries_by event_core before.view.core first.seen.0 ≡ [] → ⊥
  some_own none =
      let same = ap length (sym told ∙ same_mine t before mid outside again first none) in
      let both = length-append before.view.mine (events_in before.view.core (way ++ last ∷ [])) in
      let some = some_events before.view.core way last in
      absurd (omega (arith, same, both, some))

  pub commit_counts : (result : Result Ack CommitFault) → IfOk result (λ ack. LandsScheduled flight.slot mid after)
      → IfOk result (λ ack. MakesScheduled contents before after)
  commit_counts (Ok ack) lands = makes_scheduled contents flight before mid after first second some_own begins lands
  commit_counts (Err refused) lands = tt
