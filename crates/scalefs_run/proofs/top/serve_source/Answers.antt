-- A script is read and run, or it is refused.
use Rattle.sfs_base.specs.Ends.{HasRisen}
use Rattle.scalefs_run.specs.Served.{ServedScript, run_ends}
use Rattle.scalefs_run.proofs.Reading.{served_unread, served_read}
use Rattle.scalefs_run.proofs.Told.{told_none}
use Rattle.scalefs_run.proofs.top.serve_source.Goals as goal

pub returns-in-Err-clause-served : goal.returns-in-Err-clause-served
returns-in-Err-clause-served g c =
    let left = g.S.Source.left c.args.source.now in
    let Read = HasRisen (g.S.Source.faults c.args.source.now) (g.S.Source.faults c.read_script.new.source) in
    let Wrote = HasRisen (g.K.Sink.faults c.args.sink.now) (g.K.Sink.faults c.args.sink.now) in
    let written = g.K.Sink.written c.args.sink.now in
    let view = g.D.Disk.view in
    let disk = c.args.disk in
    let found = c.in-Err.ensures.err in
    let none = c.no_calls.ensures in
    told_none (λ d told. ServedScript c.args.nodes left (run_ends Read Wrote written written (view disk) (view d)) told) c.no_calls.result c.in-Err.status
    disk (record { status_is = none.status; history = none.history; turns = none.turns; disk_is = none.disk })
    (served_unread c.args.nodes left found.0 Read Wrote written (view disk) c.in-Err.status found.1 found.2)

pub returns-in-Ok-clause-served : goal.returns-in-Ok-clause-served
returns-in-Ok-clause-served g c =
    let left = g.S.Source.left c.args.source.now in
    let Read = HasRisen (g.S.Source.faults c.args.source.now) (g.S.Source.faults c.read_script.new.source) in
    let Wrote = HasRisen (g.K.Sink.faults c.args.sink.now) (g.K.Sink.faults c.serve_script.new.sink) in
    let found = c.in-Ok.ensures.ok in
    let ran = c.serve_script.result in
    served_read c.args.nodes left found.0 c.in-Ok.script Read Wrote (g.K.Sink.written c.args.sink.now) (g.K.Sink.written c.serve_script.new.sink)
    (g.D.Disk.view c.args.disk) (g.D.Disk.view ran.disk) ran.status ran.history ran.turns.items found.1 found.2 found.3 c.serve_script.ensures.served
