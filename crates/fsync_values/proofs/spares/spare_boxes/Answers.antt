use Rattle.std.proofs.Common.{ℕ, Bool, ◌∷◌, [], ◌∙◌, length, sym, ap, arith, length-append}
use Rattle.std.specs.Prelude.{if◌then◌else◌}
use Rattle.fsync_values.proofs.Renewed.{boxes_none, boxes_enough}
use Rattle.fsync_values.proofs.spares.spare_boxes.Goals as goal
use Rattle.fsync_values.proofs.spares.spare_boxes.Goals.{then-not-has_old+in_ok-new+in_ok-push, else-not-has_old}

pub loop-value-init : goal.loop-value-init
loop-value-init c after nodes = let none = boxes_none after nodes in omega (arith, none)

pub loop-value-preserved : goal.loop-value-preserved
loop-value-preserved c after nodes =
    let few = c.loop-value.invariant after nodes in
    let v = c.value-item.result in
    let one = boxes_enough after nodes c.loop-value.value-index c.args.values.now v c.loop-value-test.true c.value-item.is in
    elim c.if-not-has_old.branch [
      | then-not-has_old+in_ok-new+in_ok-push w ↦
          let long = ap (λ s. length s.items) w.spares-is ∙ ap length w.in_ok-push.ensures.items
          ∙ length-append c.loop-value.spares.items (w.in_ok-new.field-0 ∷ []) in
          let box = ap {B = ℕ} (λ (b : Bool). if b then 0 else 1) (sym c.has_old.ensures ∙ w.if-not-has_old.true) in
          omega (arith, one, few, long, box)
      | else-not-has_old w ↦
          let long = ap (λ s. length s.items) w.spares-is in
          let box = ap {B = ℕ} (λ (b : Bool). if b then 0 else 1) (sym c.has_old.ensures ∙ w.if-not-has_old.false) in
          omega (arith, one, few, long, box)
    ]
