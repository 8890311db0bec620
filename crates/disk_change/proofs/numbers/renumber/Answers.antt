use Rattle.std.proofs.Common.{◌<◌, sym, ap, ◌∙◌, length, arith, None, get_or, Some}
use Rattle.std.specs.BTreeMap.{get}
use Rattle.std.specs.Option.{unwrap_or}
use Rattle.std.specs.Ordering.{nat_cmp}
use Rattle.disk_change.specs.Numbered.{slot_numbered}
use Rattle.disk_change.proofs.Blocks.{moved_there, step_moved, step_stays}
use Rattle.disk_change.proofs.Numbering.{put_some, put_none}
use Rattle.disk_change.proofs.numbers.renumber.Goals as goal
use Rattle.disk_change.proofs.numbers.renumber.Goals.{in-Some, in_default}

pub loop-place-preserved : goal.loop-place-preserved
loop-place-preserved c =
    let old = c.args.block.now in
    let f = slot_numbered (λ node. unwrap_or (get nat_cmp c.args.numbers.now node) None) c.args.net.now in
    let within : c.loop-place.place < length old = omega (arith, c.len-place-end.ensures.count) in
    let slot = moved_there f old c.loop-place.block c.loop-place.place None within c.loop-place.invariant in
    elim c.match-branch-2.branch [
      | in-Some w ↦
          let put =
          put_some (get_or c.loop-place.block c.loop-place.place None) c.in_ok-row.field-0
          (f (get_or c.loop-place.block c.loop-place.place None)) w.in-Some.row c.in_ok-row.ensures w.in-Some.is in
          w.block-is ∙ w.put.ensures
          ∙ step_moved f old c.loop-place.block c.loop-place.place None within c.loop-place.invariant (Some w.in-Some.row) (put ∙ ap f slot)
      | in_default w ↦
          let put =
          put_none (get_or c.loop-place.block c.loop-place.place None) c.in_ok-row.field-0
          (f (get_or c.loop-place.block c.loop-place.place None)) c.in_ok-row.ensures w.in_default.is in
          w.block-is ∙ step_stays f old c.loop-place.block c.loop-place.place None within c.loop-place.invariant (sym slot ∙ put ∙ ap f slot)
    ]
