use Rattle.std.proofs.Common.{◌<◌, sym, ap, ◌∙◌, length, arith, reverse, is_none, drop}
use Rattle.std.specs.Prelude.{slice_get}
use Rattle.disk_change.proofs.Blocks.{step_taken, step_empty, left_taken, left_empty, slot_there, popped, none_waits, not_lent, is_lent}
use Rattle.disk_change.proofs.block.fill.Goals as goal
use Rattle.disk_change.proofs.block.fill.Goals.{then-is_none, else-is_none}

pub loop-place-preserved : goal.loop-place-preserved
loop-place-preserved c =
    let old = c.args.block.now in
    let rows = reverse c.args.waiting.now.items in
    let within : c.loop-place.place < length old = omega (arith, c.len-place-end.ensures.count) in
    let slot = slot_there old c.loop-place.block rows c.loop-place.place within c.loop-place.invariant.block in
    elim c.if-is_none.branch [
      | then-is_none w ↦
          let next = popped c.loop-place.waiting.items w.pop.new.self.items w.pop.result w.pop.ensures.items
          (none_waits _ _ c.loop-place.waiting.items w.pop.result _ w.pop.ensures.cases c.loop-place.waiting.ok.0) in
          let empty = ap is_none (sym slot) ∙ not_lent c.row.result _ c.row.ensures w.if-is_none.ensures in
          record {
            block =
                w.block-is ∙ w.put.ensures
                ∙ step_empty old c.loop-place.block rows c.loop-place.place w.pop.result within empty c.loop-place.invariant.block
                (next.0 ∙ ap (λ waiting. slice_get waiting 0) c.loop-place.invariant.left);
            left =
                ap (λ v. reverse v.items) w.waiting-is ∙ next.1 ∙ ap (drop 1) c.loop-place.invariant.left
                ∙ sym (left_empty old rows c.loop-place.place within empty);
          }
      | else-is_none w ↦
          let taken = ap is_none (sym slot) ∙ is_lent c.row.result _ c.row.ensures w.if-is_none.ensures in
          record {
            block = w.block-is ∙ step_taken old c.loop-place.block rows c.loop-place.place within taken c.loop-place.invariant.block;
            left = ap (λ v. reverse v.items) w.waiting-is ∙ c.loop-place.invariant.left ∙ sym (left_taken old rows c.loop-place.place within taken);
          }
    ]
