use Rattle.std.proofs.Common.{ap, ◌∙◌, not}
use Rattle.fsync_stamp.proofs.Fsyncs.{alive_by_fault}
use Rattle.fsync_stamp.proofs.stamp.lives_in.Goals as goal

pub returns : goal.returns
returns c = λ tree meets.
    ap not c.is_dead_fault.ensures
    ∙ alive_by_fault tree c.args.node.0 c.directory_fault_in.result (c.directory_fault_in.ensures.fault tree meets)
