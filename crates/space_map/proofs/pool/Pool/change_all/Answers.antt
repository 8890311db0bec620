use Rattle.space_map.proofs.Changes.{Changes-more}
use Rattle.space_map.proofs.pool.Pool.change_all.Goals as goal

pub loop-number-preserved : goal.loop-number-preserved
loop-number-preserved c = Changes-more c.args.change _ _ _ _ _ c.loop-number-test.true c.loop-number.invariant c.change_one.ensures
