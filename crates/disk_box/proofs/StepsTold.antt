-- That a pen has told of steps alone, and of how many device calls.
use Rattle.std.proofs.Common.{◌≡◌, ◌+◌, ◌≤◌, ◌∷◌, ◌++◌, ◌∙◌, List, [], sym, ap, append_assoc, append-nil, arith, cond, false, true, Result, Ok, Err, OnOk}
use Rattle.std.proofs.lemmas.List.{map-append}
use Rattle.tree_laws.specs.Tree.{TreeState}
use Rattle.stamp_table.specs.declared.event.Event.{Event}
use Rattle.stamp_table.specs.declared.event.Event.TheVariants.{Told}
use Rattle.stamp_table.specs.declared.view.View.{View as Sight}
use Rattle.slot_laws.specs.declared.label.Label.{Label}
use Rattle.slot_laws.specs.Telling.{AreSteps, IsOfStep, device_calls, is_device_call, labels_by}
use Rattle.slot_laws.proofs.DeviceCalls.{device_calls_more, one_call_at_most}
use Rattle.disk_box.specs.Pens.{PenGoes, PenHand, Tells, TellsLabel, TellsSteps, calls_at}

-- of none
pub steps_none : {D : Type 0} (pen : PenHand D) → TellsSteps pen pen
steps_none pen = record { facts = []; mine_is = sym (append-nil pen.view.mine); steps = tt }

-- of one
pub step_told : {D : Type 0} (before after : PenHand D) (fact : Label) → TellsLabel fact before after → IsOfStep fact → TellsSteps before after
step_told before after fact tells of = record { facts = fact ∷ []; mine_is = tells.mine_is; steps = (of, tt) }

pub steps_append : (facts more : List Label) → AreSteps facts → AreSteps more → AreSteps (facts ++ more)
steps_append [] more first second = second
steps_append (fact ∷ facts) more first second = (first.0, steps_append facts more first.1 second)

-- what a pen has told, and what it tells then
pub tells_both : {D : Type 0} (before mid after : PenHand D) (facts more : List Label) → PenGoes before mid → Tells facts before mid → Tells more mid after
    → Tells (facts ++ more) before after
tells_both before mid after facts more goes first second =
    let core = ap (λ (v : Sight TreeState (Event Label)). v.core) goes.view in
    second
    ∙ (ap (λ l. l ++ labels_by mid.view.core more) first
    ∙ (ap (λ c. (before.view.mine ++ labels_by before.view.core facts) ++ labels_by c more) core
    ∙ (append_assoc before.view.mine (labels_by before.view.core facts) (labels_by before.view.core more)
    ∙ ap (λ l. before.view.mine ++ l) (sym (map-append (Told (record { 0 = before.view.core })) facts more)))))

-- of some and then of others
pub steps_both : {D : Type 0} (before mid after : PenHand D) → PenGoes before mid → TellsSteps before mid → TellsSteps mid after → TellsSteps before after
steps_both before mid after goes first second = record {
  facts = first.facts ++ second.facts;
  mine_is = tells_both before mid after first.facts second.facts goes first.mine_is second.mine_is;
  steps = steps_append first.facts second.facts first.steps second.steps;
}

-- a label tells of a device call, or of none
module _ {D : Type 0} (before after : PenHand D) (fact : Label) (tells : TellsLabel fact before after) where
  calls_more : calls_at after ≡ calls_at before + cond (is_device_call fact) 1 0
  calls_more = ap device_calls tells.mine_is ∙ device_calls_more before.view.mine (record { 0 = before.view.core }) fact

  pub call_told : is_device_call fact ≡ true → calls_at after ≡ calls_at before + 1
  call_told is = calls_more ∙ ap (λ b. calls_at before + cond b 1 0) is

  pub no_call_told : is_device_call fact ≡ false → calls_at after ≡ calls_at before
  no_call_told not = calls_more ∙ (ap (λ b. calls_at before + cond b 1 0) not ∙ omega arith)

  -- so of one at most
  pub once_told : calls_at after ≤ calls_at before + 1
  once_told =
      let more = calls_more in
      let one = one_call_at_most (is_device_call fact) in
      omega (arith, more, one)

-- one pen goes on, and then again
pub pens_both : {D : Type 0} (before mid after : PenHand D) → PenGoes before mid → PenGoes mid after → PenGoes before after
pens_both before mid after first second = record {
  frame =
      (λ i. record (second.frame i) { view = before.view; held = before.held; room = before.room }) ∙ first.frame;
  view =
      (λ i. record (second.view i) { seen = before.view.seen; mine = before.view.mine; held = before.view.held }) ∙ first.view;
  seen = (
    first.seen.0 ++ second.seen.0,
    sym (append_assoc before.view.seen first.seen.0 second.seen.0)
        ∙ (ap (λ l. l ++ second.seen.0) first.seen.1 ∙ second.seen.1),
  );
}

-- what is so however a call ends is so where it answered Ok
pub on_ok : {V E P : Type 0} (result : Result V E) → P → OnOk result P
on_ok (Ok v) p = p
on_ok (Err e) p = tt
