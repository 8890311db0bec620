use Rattle.sfs_dev.specs.declared.memory.Memory.{Memory}
use Rattle.flush_agrees.proofs.Growing.{agreeing_cores_tell}
use Rattle.test_volume.proofs.alone.assert_flushed_alone.Goals as goal

pub flushed_alone-is-requires-clause-agree : goal.flushed_alone-is-requires-clause-agree
flushed_alone-is-requires-clause-agree g c =
    let worker = c.assert_answered-3.new.worker in
    let agree = c.assert_answered-3.ensures.agree in
    agreeing_cores_tell Memory c.args.site.now.table.now worker.core worker.pen agree.fsyncs agree.agree
