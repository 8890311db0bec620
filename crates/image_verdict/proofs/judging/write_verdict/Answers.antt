use Rattle.std.proofs.Common.{sym, ◌∙◌}
use Rattle.sfs_base.specs.Ends.{HasRisen}
use Rattle.image_verdict.proofs.Judged.{after_reads, fault_verdict}
use Rattle.image_verdict.proofs.judging.write_verdict.Goals as goal

pub write_accepted-requires-clause-valid : goal.write_accepted-requires-clause-valid
write_accepted-requires-clause-valid g c lifetimes outlived = λ image told. c.in-Ok.ensures.ok image (sym c.in-Ok.ensures.reads.unwritten.content ∙ told)

pub returns-in-Ok-clause-verdict : goal.returns-in-Ok-clause-verdict
returns-in-Ok-clause-verdict g c =
    let written = g.K.Sink.written in
    after_reads (g.D.Disk.view c.args.disk.now) (g.D.Disk.view c.certify.new.disk) (g.D.Disk.view c.write_accepted.new.disk)
    (HasRisen (g.K.Sink.faults c.args.sink.now) (g.K.Sink.faults c.write_accepted.new.sink)) (written c.args.sink.now)
    (written c.write_accepted.new.sink) c.in-Ok.cert c.write_accepted.result c.in-Ok.ensures.reads c.write_accepted.ensures.advances
    c.write_accepted.ensures.verdict

pub returns-in-Err-clause-verdict : goal.returns-in-Err-clause-verdict
returns-in-Err-clause-verdict g c =
    let written = g.K.Sink.written in
    fault_verdict (g.D.Disk.view c.args.disk.now) (g.D.Disk.view c.certify.new.disk)
    (HasRisen (g.K.Sink.faults c.args.sink.now) (g.K.Sink.faults c.write_fault.new.sink)) (written c.args.sink.now)
    (written c.write_fault.new.sink) c.in-Err.fault c.in-Err.ensures.bad c.in-Err.ensures.reads c.write_fault.result c.write_fault.ensures
