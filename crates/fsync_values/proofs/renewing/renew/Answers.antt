use Rattle.std.proofs.Common.{◌≤◌, ◌+◌, ◌-◌, ◌∙◌, length, ap, sym, subst, arith}
use Rattle.std.specs.Prelude.{if◌then◌else◌}
use Rattle.sfs_base.specs.declared.numbers.NodeId.{NodeId}
use Rattle.fsync_values.specs.Renewing.{asks_box, renewed_by, renewed_value}
use Rattle.fsync_values.proofs.Renewed.{renew_needs, renew_step, taken}
use Rattle.fsync_values.proofs.renewing.renew.Goals as goal

pub renew_one-requires : goal.renew_one-requires
renew_one-requires c asks =
    renew_needs (renewed_value c.args.renewal c.args.members.now c.args.after.items) c.args.after.items c.loop-at.after.items c.args.nodes.now c.loop-at.at
    c.args.values.now.items c.loop-at.values.items (length c.loop-at.spares.items) (record { 0 = 0 }) c.index_mut.result.now c.requires.ascend
    c.loop-at-test.true c.loop-at.invariant.within c.index_mut.ensures.value c.loop-at.invariant.renewing
    (ap (λ o. asks_box o c.index_mut.result.now) (sym c.take_old-old.ensures.value) ∙ asks)

pub loop-at-preserved : goal.loop-at-preserved
loop-at-preserved c =
    let f = renewed_value c.args.renewal c.args.members.now c.args.after.items in
    let m : NodeId = record { 0 = 0 } in
    let v = c.index_mut.result.now in
    let inv = c.loop-at.invariant in
    let same =
    taken f c.args.after.items c.loop-at.after.items c.args.nodes.now c.loop-at.at c.args.values.now.items c.loop-at.values.items
    (length c.loop-at.spares.items) m v c.requires.ascend c.loop-at-test.true inv.within c.index_mut.ensures.value inv.renewing in
    record {
      renewing =
          renew_step f c.args.after.items c.loop-at.after.items c.args.nodes.now c.loop-at.at c.args.values.now.items c.loop-at.values.items
          (length c.loop-at.spares.items) m v c.requires.ascend c.loop-at-test.true inv.within c.index_mut.ensures.value inv.renewing
          c.renew_one.new.value c.take_old-old.new.disk.items (length c.renew_one.new.spares.items)
          (c.renew_one.ensures.value
          ∙ (λ i. renewed_by c.args.renewal.stamp (c.is_among.ensures i) c.args.renewal.number ((c.take_old-old.ensures.value ∙ same) i) v))
          c.take_old-old.ensures.items
          (subst (λ o. length c.loop-at.spares.items ≤ length c.renew_one.new.spares.items + (if asks_box o v then 1 else 0)) c.take_old-old.ensures.value
          c.renew_one.ensures.spares);
      within = let within = inv.within in omega (arith, within);
    }
