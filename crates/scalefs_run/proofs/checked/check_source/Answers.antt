-- A text is read from the source, or it is not.
use Rattle.std.proofs.Common.{Err, ap, sym, subst}
use Rattle.sfs_base.specs.Ends.{HasRisen}
use Rattle.scalefs_run.specs.Checked.{ChecksHistory}
use Rattle.scalefs_run.specs.Outcome.{IsOf}
use Rattle.scalefs_run.specs.Served.{run_ends}
use Rattle.scalefs_run.specs.declared.outcome.Status.{Status}
use Rattle.scalefs_run.proofs.Checking.{all_read, check_read, check_unread, source_ends}
use Rattle.scalefs_run.proofs.checked.check_source.Goals as goal

pub returns-in-Ok-clause-checks : goal.returns-in-Ok-clause-checks
returns-in-Ok-clause-checks g c =
    let source = c.args.source.now in
    let sink = c.args.sink.now in
    let last = c.check_text.new.sink in
    let left = g.S.Source.left source in
    let taken = c.in-Ok.ensures.taken in
    check_read c.args.nodes left c.deref.result.now (HasRisen (g.S.Source.faults source) (g.S.Source.faults c.read_all.new.source))
    (HasRisen (g.K.Sink.faults sink) (g.K.Sink.faults last)) (g.K.Sink.written sink) (g.K.Sink.written last) (g.D.Disk.view c.args.disk.now)
    (g.D.Disk.view c.check_text.new.disk) c.check_text.result
    (subst (IsOf left) (sym c.deref.ensures.value) (all_read left taken.0 c.in-Ok.text.items taken.2.0 taken.2.2)) c.check_text.ensures.checks

pub returns-in-Err-clause-checks : goal.returns-in-Err-clause-checks
returns-in-Err-clause-checks g c =
    let source = c.args.source.now in
    let left = g.S.Source.left source in
    let written = g.K.Sink.written c.args.sink.now in
    let disk = g.D.Disk.view c.args.disk.now in
    let Read = HasRisen (g.S.Source.faults source) (g.S.Source.faults c.read_all.new.source) in
    let Wrote = HasRisen (g.K.Sink.faults c.args.sink.now) (g.K.Sink.faults c.args.sink.now) in
    let given = c.in-Err.ensures in
    let taken = given.taken in
    let found = source_ends Read left (g.S.Source.left c.read_all.new.source) taken.0 c.in-Err.fault taken.1 taken.2 (λ is. given.cause (ap Err is)) in
    subst (λ (status : Status). ChecksHistory c.args.nodes left (run_ends Read Wrote written written disk disk) status) (sym c.status_of_source.ensures)
    (check_unread c.args.nodes left found.0 Read Wrote written disk c.in-Err.fault found.1 found.2)
