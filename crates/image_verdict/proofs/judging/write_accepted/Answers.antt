use Rattle.std.proofs.Common.{refl}
use Rattle.sfs_base.specs.Ends.{HasRisen}
use Rattle.image_verdict.proofs.Judged.{accept_failed, accept_wanted, accepted_verdict}
use Rattle.image_verdict.proofs.judging.write_accepted.Goals as goal

pub returns-in-Ok-clause-verdict : goal.returns-in-Ok-clause-verdict
returns-in-Ok-clause-verdict g c =
    let written = g.K.Sink.written in
    accepted_verdict (g.D.Disk.view c.args.disk.now) (g.D.Disk.view c.accept.new.disk)
    (HasRisen (g.K.Sink.faults c.args.sink.now) (g.K.Sink.faults c.write_if_accepted.new.sink)) (written c.args.sink.now)
    (written c.write_if_accepted.new.sink) c.args.cert.now c.in-Ok.accepted c.requires.valid c.in-Ok.ensures.told c.in-Ok.ensures.reads
    c.write_if_accepted.result c.write_if_accepted.ensures

pub returns-in-Err-DiskFailed-clause-verdict : goal.returns-in-Err-DiskFailed-clause-verdict
returns-in-Err-DiskFailed-clause-verdict g c =
    let written = g.K.Sink.written c.args.sink.now in
    accept_failed (g.D.Disk.view c.args.disk.now) (g.D.Disk.view c.accept.new.disk)
    (HasRisen (g.K.Sink.faults c.args.sink.now) (g.K.Sink.faults c.args.sink.now)) written written c.in-Err-DiskFailed.field-0
    c.in-Err-DiskFailed.field-0-is c.in-Err-DiskFailed.ensures.reads refl

pub returns-in-Err-NoMemory-clause-verdict : goal.returns-in-Err-NoMemory-clause-verdict
returns-in-Err-NoMemory-clause-verdict g c =
    let written = g.K.Sink.written c.args.sink.now in
    accept_wanted (g.D.Disk.view c.args.disk.now) (g.D.Disk.view c.accept.new.disk)
    (HasRisen (g.K.Sink.faults c.args.sink.now) (g.K.Sink.faults c.args.sink.now)) written written c.in-Err-NoMemory.field-0
    c.in-Err-NoMemory.ensures.reads refl
