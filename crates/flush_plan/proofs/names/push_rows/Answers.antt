use Rattle.std.proofs.Common.{◌<◌, length, ap, ◌∙◌, arith, get_or}
use Rattle.absorb.specs.declared.nets.NetRow.{NetRow}
use Rattle.tree_laws.specs.NameRow.{number_of}
use Rattle.disk_change.proofs.Counted.{pushed_more}
use Rattle.flush_plan.proofs.names.push_rows.Goals as goal

pub loop-row-preserved : goal.loop-row-preserved
loop-row-preserved c =
    let same = c.as_slice-row-items.ensures in
    let long = ap length same in
    let within : c.loop-row.row-index < length c.args.one.now.net.items = omega arith in
    let row = c.row-item.is ∙ ap (λ those. get_or those c.loop-row.row-index c.row-item.result) same in
    record {
      coming =
          pushed_more
          (λ (row : NetRow). number_of row.after) c.args.coming.now.items c.args.one.now.net.items c.loop-row.row-index c.row-item.result
          c.loop-row.coming.items _ _ within c.loop-row.invariant.coming
          (ap (λ (row : NetRow). number_of row.after) row) c.in_ok-push_some.ensures;
      going =
          pushed_more
          (λ (row : NetRow). number_of row.before) c.args.going.now.items c.args.one.now.net.items c.loop-row.row-index c.row-item.result
          c.loop-row.going.items _ _ within c.loop-row.invariant.going
          (ap (λ (row : NetRow). number_of row.before) row) c.in_ok-push_some-2.ensures;
    }
