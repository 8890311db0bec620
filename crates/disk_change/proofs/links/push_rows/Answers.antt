use Rattle.std.proofs.Common.{◌<◌, length, ap, ◌∙◌, arith, get_or}
use Rattle.absorb.specs.declared.nets.NetRow.{NetRow}
use Rattle.disk_change.specs.Links.{linked_by}
use Rattle.disk_change.proofs.Counted.{pushed_more}
use Rattle.disk_change.proofs.links.push_rows.Goals as goal

pub loop-row-preserved : goal.loop-row-preserved
loop-row-preserved c =
    let dirs = c.args.directories.now in
    let node = c.args.one.now.node.0 in
    let same = c.as_slice-row-items.ensures in
    let long = ap length same in
    let within : c.loop-row.row-index < length c.args.one.now.net.items = omega arith in
    let row = c.row-item.is ∙ ap (λ those. get_or those c.loop-row.row-index c.row-item.result) same in
    record {
      coming =
          pushed_more
          (λ (row : NetRow). linked_by dirs node row.after) c.args.coming.now.items c.args.one.now.net.items c.loop-row.row-index c.row-item.result
          c.loop-row.coming.items _ c.linked_by.result within c.loop-row.invariant.coming
          (c.linked_by.ensures ∙ ap (λ (row : NetRow). linked_by dirs node row.after) row) c.in_ok-push_some.ensures;
      going =
          pushed_more
          (λ (row : NetRow). linked_by dirs node row.before) c.args.going.now.items c.args.one.now.net.items c.loop-row.row-index c.row-item.result
          c.loop-row.going.items _ c.linked_by-in-loop-row.result within c.loop-row.invariant.going
          (c.linked_by-in-loop-row.ensures ∙ ap (λ (row : NetRow). linked_by dirs node row.before) row) c.in_ok-push_some-2.ensures;
    }
