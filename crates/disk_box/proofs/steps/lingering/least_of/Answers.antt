use Rattle.std.proofs.Common.{◌+◌, arith, sym, subst, ap, ◌∙◌}
use Rattle.disk_box.specs.declared.desk.Slot.{Slot}
use Rattle.disk_box.specs.Kind.{kind_of}
use Rattle.disk_box.specs.Oldest.{FoundLeast}
use Rattle.disk_box.specs.Steps.{is_lingering}
use Rattle.disk_box.proofs.Older.{least_first, least_moves, least_skips, least_stays, lingers_not, lingers_read}
use Rattle.disk_box.proofs.steps.lingering.least_of.Goals.{then-is_lingering+in-Some, then-is_lingering+in_default-2, then-is_lingering+in_default, else-is_lingering}
use Rattle.disk_box.proofs.steps.lingering.least_of.Goals as goal

pub loop-k-preserved : goal.loop-k-preserved
loop-k-preserved c =
    let slots = c.args.slots.now in
    let k = c.loop-k.k in
    let slot = c.index-slots-k.result in
    let is = ap (λ (s : Slot). is_lingering (kind_of s.phase)) c.index-slots-k.is ∙ (ap is_lingering (sym c.kind.ensures) ∙ sym c.is_lingering.ensures) in
    elim c.if-is_lingering.branch [
      | then-is_lingering+in-Some w ↦
          subst (FoundLeast slots (k + 1)) (sym w.least-is)
          (least_stays slots k w.in-Some.one (subst (FoundLeast slots k) w.in-Some.is c.loop-k.invariant)
          (lingers_read slots k slot c.loop-k-test.true c.index-slots-k.is (is ∙ w.if-is_lingering.true)) _ _
          w.if-slots-one.true)
      | then-is_lingering+in_default-2 w ↦
          subst (FoundLeast slots (k + 1)) (sym w.least-is)
          (least_moves slots k w.in-Some.one (subst (FoundLeast slots k) w.in-Some.is c.loop-k.invariant)
          (lingers_read slots k slot c.loop-k-test.true c.index-slots-k.is (is ∙ w.if-is_lingering.true)) _ _
          w.if-slots-one.false)
      | then-is_lingering+in_default w ↦
          subst (FoundLeast slots (k + 1)) (sym w.least-is)
          (least_first slots k (subst (FoundLeast slots k) w.in_default.is c.loop-k.invariant)
          (lingers_read slots k slot c.loop-k-test.true c.index-slots-k.is (is ∙ w.if-is_lingering.true)))
      | else-is_lingering w ↦
          subst (FoundLeast slots (k + 1)) (sym w.least-is)
          (least_skips slots k c.loop-k.least c.loop-k.invariant (lingers_not slots k slot c.index-slots-k.is (is ∙ w.if-is_lingering.false)))
    ]

pub returns : goal.returns
returns c =
    let past = c.loop-k-test.false in
    let within = c.loop-k.auto.k-end in
    subst (λ n. FoundLeast c.args.slots.now n c.loop-k.least) (omega (arith, past, within)) c.loop-k.invariant
