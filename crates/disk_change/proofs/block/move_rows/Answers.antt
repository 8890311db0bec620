use Rattle.std.proofs.Common.{◌<◌, sym, ap, ◌∙◌, length, arith, None, get_or, Option}
use Rattle.std.specs.Option.{option_and_then, option_copied}
use Rattle.sfs_image.specs.Slot.{Row}
use Rattle.image_laws.specs.Commit.{row_in_net}
use Rattle.disk_change.specs.Directory.{slot_moved}
use Rattle.disk_change.proofs.Blocks.{moved_there, step_moved, step_stays, moved_by, stays_by}
use Rattle.disk_change.proofs.block.move_rows.Goals as goal
use Rattle.disk_change.proofs.block.move_rows.Goals.{in-Some+in_ok-brought, in_default}

pub loop-place-preserved : goal.loop-place-preserved
loop-place-preserved c =
    let old = c.args.block.now in
    let f = slot_moved c.args.directories.now c.args.net.now in
    let within : c.loop-place.place < length old = omega (arith, c.len-place-end.ensures.count) in
    let slot = moved_there f old c.loop-place.block c.loop-place.place None within c.loop-place.invariant in
    let own = λ (s : Option Row). option_and_then (λ (row : Row). row_in_net row.name c.args.net.now) s in
    elim c.match-changed_at.branch [
      | in-Some+in_ok-brought w ↦
          let by =
          moved_by c.args.directories.now c.args.net.now (get_or old c.loop-place.place None) w.in-Some.row.now
          (ap own (sym slot) ∙ sym w.in-Some.ensures) in
          w.block-is ∙ w.put.ensures
          ∙ step_moved f old c.loop-place.block c.loop-place.place None within c.loop-place.invariant w.in_ok-brought.field-0
          (w.in_ok-brought.ensures ∙ by.0)
      | in_default w ↦
          let by =
          stays_by c.args.directories.now c.args.net.now (get_or old c.loop-place.place None)
          (ap own (sym slot) ∙ sym c.changed_at.ensures ∙ ap option_copied w.in_default.is) in
          w.block-is ∙ step_stays f old c.loop-place.block c.loop-place.place None within c.loop-place.invariant by.0
    ]
