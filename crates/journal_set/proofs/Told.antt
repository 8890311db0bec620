-- Which labels a pen tells turn by turn at the box.
use Rattle.std.proofs.Common.{◌≡◌, ◌∷◌, ◌++◌, ◌∙◌, ℕ, List, [], refl, sym, ap, subst, append_assoc, append-nil, flat_map}
use Rattle.tree_laws.specs.Tree.{TreeState}
use Rattle.tree_laws.specs.declared.turns.TurnAct.TheVariants as act
use Rattle.tree_laws.specs.declared.turns.Turn.{Turn}
use Rattle.cut_laws.specs.Closure.{Flush}
use Rattle.turn_laws.specs.Ways.{Way}
use Rattle.stamp_table.specs.declared.view.View.{View as Sight}
use Rattle.stamp_table.specs.declared.event.Event.{Event}
use Rattle.stamp_table.specs.declared.event.Event.TheVariants.{Told}
use Rattle.slot_laws.specs.declared.label.Label.{Label}
use Rattle.slot_laws.specs.Telling.{IsOfStep, turns_told, IsOfWork, AreSteps, AreOfWork, labels_by, BoxTurn, turn_works, turn_fails, turn_fails_begun, turn_opens, at_box, labels_in, events_in, IsOfFlight, AreOfFlight}
use Rattle.slot_laws.specs.Labels.{own_from, nothing_told, OwnTold}
use Rattle.slot_laws.specs.Rules.{IsTurnBy}
use Rattle.slot_laws.specs.declared.label.Label.TheVariants as label
use Rattle.slot_laws.proofs.Telling.{own_both, labels_told, labels_both, events_both}
use Rattle.commit_ledger.specs.declared.last.Last.{Last}
use Rattle.disk_box.specs.Pens.{PenHand, Tells, own_at, TellsSteps, PenGoes}
use Rattle.disk_box.specs.Turns.{TellsFailure, TellsBegunFailure, TellsOpening}
use Rattle.disk_box.specs.Steps.{OpensFlight}
use Rattle.disk_box.proofs.StepsTold.{tells_both}
use Rattle.journal_set.specs.Telling.{TellsAtBox, TellsFailing, TellsFailingBegun, TellsGoing, TellsCall, IsOneTurn, AreTurns, AreTurnsTo}

-- a list ends the same way behind the same front
pub same_end : {X : Type 0} (front one other : List X) → front ++ one ≡ front ++ other → one ≡ other
same_end [] one other same = same
same_end (x ∷ front) one other same = same_end front one other (cc same)

-- steps that tell no turn are work
quiet_step : (fact : Label) → IsOfStep fact → turns_told fact ≡ [] → IsOfWork fact
quiet_step (label.Filled slot piece done) step none = tt
quiet_step (label.Synced now) step none = tt
quiet_step (label.Settled slot turn) step none = tt
quiet_step (label.Placed slot n done) step none = tt
quiet_step (label.Shut slot done) step none = tt
quiet_step (label.Idled slot) step none = tt
quiet_step (label.Opened slot done cut opened) step none = absurd (cc none)
quiet_step label.Took step none = absurd step
quiet_step label.Gave step none = absurd step
quiet_step (label.Noted turn) step none = absurd step
quiet_step (label.Reserved commit seen grant) step none = absurd step
quiet_step (label.Returned commit) step none = absurd step
quiet_step (label.Began filling commit node stamp blocks inodes) step none = absurd step
quiet_step (label.Learned turn) step none = absurd step
quiet_step (label.Empty commit cut opened durable) step none = absurd step

-- work is of each flight
work_flight : (core number : ℕ) (flush : Flush) (fact : Label) → IsOfWork fact → IsOfFlight core number flush fact
work_flight core number flush (label.Filled slot piece done) work = tt
work_flight core number flush (label.Synced now) work = tt
work_flight core number flush (label.Settled slot turn) work = tt
work_flight core number flush (label.Placed slot n done) work = tt
work_flight core number flush (label.Shut slot done) work = tt
work_flight core number flush (label.Idled slot) work = tt
work_flight core number flush (label.Opened slot done cut opened) work = absurd work
work_flight core number flush label.Took work = absurd work
work_flight core number flush label.Gave work = absurd work
work_flight core number flush (label.Noted turn) work = absurd work
work_flight core number flush (label.Reserved commit seen grant) work = absurd work
work_flight core number flush (label.Returned commit) work = absurd work
work_flight core number flush (label.Began filling commit node stamp blocks inodes) work = absurd work
work_flight core number flush (label.Learned turn) work = absurd work
work_flight core number flush (label.Empty commit cut opened durable) work = absurd work

pub works_flight : (core number : ℕ) (flush : Flush) (facts : List Label) → AreOfWork facts → AreOfFlight core number flush facts
works_flight core number flush [] work = tt
works_flight core number flush (fact ∷ facts) work = (work_flight core number flush fact work.0, works_flight core number flush facts work.1)

-- two lists that make none are none
both_none : {X : Type 0} (one other : List X) → one ++ other ≡ [] → (one ≡ []) × (other ≡ [])
both_none [] other none = (refl, none)
both_none (x ∷ one) other none = absurd (cc none)

quiet_steps : (facts : List Label) → AreSteps facts → flat_map turns_told facts ≡ [] → AreOfWork facts
quiet_steps [] steps none = tt
quiet_steps (fact ∷ facts) steps none =
    let each = both_none (turns_told fact) (flat_map turns_told facts) none in (quiet_step fact steps.0 each.0, quiet_steps facts steps.1 each.1)

around_lists : (core : ℕ) (facts : List Label) (mine entered done after : List (Event Label)) → entered ≡ mine ++ Told (record { 0 = core }) label.Took ∷ []
    → done ≡ entered ++ labels_by core facts → after ≡ done ++ Told (record { 0 = core }) label.Gave ∷ [] → after ≡ mine ++ (at_box core facts ++ [])
around_lists core facts mine entered done after took told gave =
    let took_one : Event Label = Told (record { 0 = core }) label.Took in
    let gave_one : Event Label = Told (record { 0 = core }) label.Gave in
    gave
    ∙ (ap (λ l. l ++ gave_one ∷ []) (told ∙ ap (λ l. l ++ labels_by core facts) took)
    ∙ (append_assoc (mine ++ took_one ∷ []) (labels_by core facts) (gave_one ∷ [])
    ∙ (append_assoc mine (took_one ∷ []) (labels_by core facts ++ gave_one ∷ [])
    ∙ ap (λ l. mine ++ l) (ap (λ l. took_one ∷ l) (sym (labels_both core facts (label.Gave ∷ []))) ∙ sym (append-nil (at_box core facts))))))

-- a call that has told one turn
pub only_one : (Is : BoxTurn → Type 0) (turns : List BoxTurn) → IsOneTurn Is turns → (one : BoxTurn) × Is one × (turns ≡ one ∷ [])
only_one Is [] is = absurd is
only_one Is (one ∷ []) is = (one, is, refl)
only_one Is (one ∷ other ∷ turns) is = absurd is

one_through : (Is Then : BoxTurn → Type 0) → ((one : BoxTurn) → Is one → Then one) → (turns : List BoxTurn) → IsOneTurn Is turns → IsOneTurn Then turns
one_through Is Then each [] is = absurd is
one_through Is Then each (one ∷ []) is = each one is
one_through Is Then each (one ∷ other ∷ turns) is = absurd is

ways_more : (Way : BoxTurn → Type 0) (turns : List BoxTurn) (one : BoxTurn) → AreTurns Way turns → Way one → AreTurns Way (turns ++ one ∷ [])
ways_more Way [] one ways is = (is, tt)
ways_more Way (first ∷ turns) one ways is = (ways.0, ways_more Way turns one ways.1 is)

module _ {D : Type 0} where
  -- what a pen told, behind some labels more
  own_told : (before after : PenHand D) (facts : List Label) → Tells facts before after → (own_at after).told ≡ (own_at before).told ++ flat_map turns_told facts
  own_told before after facts tells =
      ap (λ l. (own_from l nothing_told).told) tells
      ∙ (ap (λ (o : OwnTold). o.told) (own_both before.view.mine (labels_by before.view.core facts) nothing_told)
      ∙ labels_told before.view.core facts (own_at before))

  -- a pen that told steps, and nothing of its own commits, told of work
  pub works_told : (before after : PenHand D) (steps : TellsSteps before after) → own_at after ≡ own_at before → AreOfWork steps.facts
  works_told before after steps same =
      quiet_steps steps.facts steps.steps
      (same_end (own_at before).told (flat_map turns_told steps.facts) []
      (sym (own_told before after steps.facts steps.mine_is) ∙ (ap (λ (o : OwnTold). o.told) same ∙ sym (append-nil (own_at before).told))))

  core_at : (before after : PenHand D) → PenGoes before after → after.view.core ≡ before.view.core
  core_at before after goes = ap (λ (v : Sight TreeState (Event Label)). v.core) goes.view

  -- nothing
  pub tells_nothing : (pen : PenHand D) (Is : BoxTurn → Type 0) → Is (turn_works []) → TellsAtBox Is pen pen
  tells_nothing pen Is is = record { one = turn_works []; is = is; mine_is = sym (append-nil pen.view.mine) }

  -- work
  pub tells_work : (before after : PenHand D) (steps : TellsSteps before after) → own_at after ≡ own_at before → (Is : BoxTurn → Type 0)
      → ((facts : List Label) → AreOfWork facts → Is (turn_works facts)) → TellsAtBox Is before after
  tells_work before after steps same Is is =
      record { one = turn_works steps.facts; is = is steps.facts (works_told before after steps same); mine_is = steps.mine_is }

  -- work, and then a failure
  pub tells_failing : (before mid after : PenHand D) (number faults : ℕ) (flush : Flush) → PenGoes before mid → (steps : TellsSteps before mid)
      → own_at mid ≡ own_at before → TellsFailure number flush mid after faults → TellsAtBox (TellsFailing before.view.core number flush faults) before after
  tells_failing before mid after number faults flush goes steps same fails =
      let core = core_at before mid goes in
      record {
        one = turn_fails steps.facts fails.cut fails.fail;
        is = (
          works_told before mid steps same,
          subst (λ n. IsTurnBy fails.cut act.CutAt n number flush) core fails.cut_by,
          subst (λ n. IsTurnBy fails.fail act.Fail n number flush) core fails.fail_by,
          fails.counts,
        );
        mine_is = tells_both before mid after steps.facts (label.Noted fails.cut ∷ label.Noted fails.fail ∷ []) goes steps.mine_is fails.mine_is;
      }

  pub tells_failing_begun : (before mid after : PenHand D) (number faults : ℕ) (flush : Flush) → PenGoes before mid → (facts : List Label)
      → AreOfFlight before.view.core number flush facts → Tells facts before mid → TellsBegunFailure number flush mid after faults
      → TellsAtBox (TellsFailingBegun before.view.core number flush faults) before after
  tells_failing_begun before mid after number faults flush goes facts of told fails =
      record {
        one = turn_fails_begun facts fails.fail;
        is = (of, subst (λ n. IsTurnBy fails.fail act.Fail n number flush) (core_at before mid goes) fails.by, fails.counts);
        mine_is = tells_both before mid after facts (label.Noted fails.fail ∷ []) goes told fails.mine_is;
      }

  -- a gate that was written, whose turns the core has
  pub opening_turns : (before after : PenHand D) (slot number : ℕ) (flush : Flush) (tells : TellsOpening slot before after)
      → (opens : OpensFlight before.view.core (own_at before) (own_at after)) → opens.flight.commit ≡ number → opens.flight.flush ≡ flush
      → IsTurnBy tells.cut act.CutAt before.view.core number flush × IsTurnBy tells.opened act.Opened before.view.core number flush
  opening_turns before after slot number flush tells opens number_is flush_is =
      let turns = same_end (own_at before).told (tells.cut ∷ tells.opened ∷ []) (opens.cut ∷ opens.opened ∷ [])
      (sym (own_told before after (label.Opened slot tells.done tells.cut tells.opened ∷ []) tells.mine_is) ∙ ap (λ (o : OwnTold). o.told) opens.after_is) in
      let cut : opens.cut ≡ tells.cut = cc turns in
      let opened : opens.opened ≡ tells.opened = cc turns in (
        subst (λ (z : Turn × (ℕ × Flush)). IsTurnBy z.0 act.CutAt before.view.core z.1.0 z.1.1) (λ i. (cut i, (number_is i, flush_is i))) opens.cut_by,
        subst (λ (z : Turn × (ℕ × Flush)). IsTurnBy z.0 act.Opened before.view.core z.1.0 z.1.1) (λ i. (opened i, (number_is i, flush_is i)))
            opens.opened_by,
      )

  pub opening_by : (before after : PenHand D) (slot number : ℕ) (flush : Flush) (tells : TellsOpening slot before after)
      → (opens : OpensFlight before.view.core (own_at before) (own_at after)) → opens.flight.commit ≡ number → opens.flight.flush ≡ flush
      → TellsAtBox (TellsGoing before.view.core number flush) before after
  opening_by before after slot number flush tells opens number_is flush_is = record {
    one = turn_opens slot tells.done tells.cut tells.opened;
    is = opening_turns before after slot number flush tells opens number_is flush_is;
    mine_is = tells.mine_is;
  }

  -- what is told while a core has the box, from outside
  pub tells_around : (before entered done after : PenHand D) → PenGoes before entered → PenGoes entered done
      → entered.view.mine ≡ before.view.mine ++ Told (record { 0 = before.view.core }) label.Took ∷ []
      → after.view.mine ≡ done.view.mine ++ Told (record { 0 = done.view.core }) label.Gave ∷ []
      → (Is : BoxTurn → Type 0) → TellsAtBox Is entered done → TellsCall (IsOneTurn Is) before after
  tells_around before entered done after goes_in goes_on took gave Is tells =
      let core = core_at before entered goes_in in
      let same = core_at entered done goes_on ∙ core in
      record {
        turns = tells.one ∷ [];
        are = tells.is;
        mine_is = around_lists before.view.core (labels_in tells.one) before.view.mine entered.view.mine done.view.mine after.view.mine took
            (tells.mine_is ∙ ap (λ n. entered.view.mine ++ labels_by n (labels_in tells.one)) core)
            (gave ∙ ap (λ n. done.view.mine ++ Told (record { 0 = n }) label.Gave ∷ []) same);
      }

  -- so may be more of one turn
  pub call_through : (before after : PenHand D) (Is Then : BoxTurn → Type 0) → ((one : BoxTurn) → Is one → Then one) → TellsCall (IsOneTurn Is) before after
      → TellsCall (IsOneTurn Then) before after
  call_through before after Is Then each tells =
      record { turns = tells.turns; are = one_through Is Then each tells.turns tells.are; mine_is = tells.mine_is }

  -- no turn yet
  pub calls_none : (pen : PenHand D) (Way : BoxTurn → Type 0) → TellsCall (AreTurns Way) pen pen
  calls_none pen Way = record { turns = []; are = tt; mine_is = sym (append-nil pen.view.mine) }

  -- what two calls have told
  pub mine_both : (before mid after : PenHand D) (turns more : List BoxTurn) → mid.view.core ≡ before.view.core
      → mid.view.mine ≡ before.view.mine ++ events_in before.view.core turns → after.view.mine ≡ mid.view.mine ++ events_in mid.view.core more
      → after.view.mine ≡ before.view.mine ++ events_in before.view.core (turns ++ more)
  mine_both before mid after turns more core first second =
      second
      ∙ ((λ i. first i ++ events_in (core i) more)
      ∙ (append_assoc before.view.mine (events_in before.view.core turns) (events_in before.view.core more)
      ∙ ap (λ l. before.view.mine ++ l) (sym (events_both before.view.core turns more))))

  pub calls_more : (before mid after : PenHand D) → PenGoes before mid → (Way : BoxTurn → Type 0) → TellsCall (AreTurns Way) before mid
      → TellsCall (IsOneTurn Way) mid after → TellsCall (AreTurns Way) before after
  calls_more before mid after goes Way first second =
      let one = only_one Way second.turns second.are in
      record {
        turns = first.turns ++ one.0 ∷ [];
        are = ways_more Way first.turns one.0 first.are one.1;
        mine_is = mine_both before mid after first.turns (one.0 ∷ []) (core_at before mid goes) first.mine_is
            (second.mine_is ∙ ap (λ l. mid.view.mine ++ events_in mid.view.core l) one.2);
      }

  pub calls_last : (before mid after : PenHand D) → PenGoes before mid → (Way Last : BoxTurn → Type 0) → TellsCall (AreTurns Way) before mid
      → TellsCall (IsOneTurn Last) mid after → TellsCall (AreTurnsTo Way Last) before after
  calls_last before mid after goes Way Last first second =
      let one = only_one Last second.turns second.are in
      record {
        turns = first.turns ++ one.0 ∷ [];
        are = record { way = first.turns; last = one.0; ways = first.are; is = one.1; turns_are = refl };
        mine_is = mine_both before mid after first.turns (one.0 ∷ []) (core_at before mid goes) first.mine_is
            (second.mine_is ∙ ap (λ l. mid.view.mine ++ events_in mid.view.core l) one.2);
      }
