use Rattle.mem_calls.proofs.PlacesLeft.{still_there, one_more}
use Rattle.mem_calls.proofs.standing.place_directory.Goals as goal

pub place_bucket-requires : goal.place_bucket-requires
place_bucket-requires c = still_there c.args.nodes c.args.node c.loop-number.number c.args.place c.args.core.now c.loop-number.core c.loop-number.invariant
    (c.requires c.loop-number.number c.loop-number-test.true)

pub loop-number-preserved : goal.loop-number-preserved
loop-number-preserved c = one_more c.args.nodes c.args.node c.loop-number.number c.args.place c.args.core.now c.loop-number.core c.loop-number.invariant
    c.place_bucket.new.core c.loop-number-test.true c.place_bucket.ensures
