use Rattle.std.proofs.Common.{length-set, ◌∙◌}
use Rattle.commit_ledger.proofs.SeenLasts.{set_more}
use Rattle.commit_ledger.proofs.last.set_all.Goals as goal

pub loop-one-preserved : goal.loop-one-preserved
loop-one-preserved c =
    let kept = c.loop-one.invariant in
    record {
      long = length-set _ _ _ ∙ kept.long;
      sets = set_more c.args.lasts.now.items c.args.seen.now c.args.last c.loop-one.one-index c.loop-one.lasts.items _ kept.sets c.loop-one-test.true
          (rw kept.long (c.requires c.loop-one.one-index _ c.loop-one-test.true));
    }
