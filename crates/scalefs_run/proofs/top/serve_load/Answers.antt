-- A made script is run, or there is no memory for it.
use Rattle.std.proofs.Common.{List, sym, subst}
use Rattle.std.specs.List.{All}
use Rattle.sfs_base.specs.Ends.{HasRisen}
use Rattle.script.specs.declared.commands.Line.{Line}
use Rattle.script.specs.Ready.{LinesMayRun}
use Rattle.made_script.specs.Made.{made}
use Rattle.made_script.proofs.Ready.{made_may_run}
use Rattle.scalefs_run.specs.declared.outcome.Status.TheVariants.{NoMemory}
use Rattle.scalefs_run.specs.declared.writing.Writing.TheVariants.{Load}
use Rattle.scalefs_run.specs.Due.{judged_status}
use Rattle.scalefs_run.specs.Served.{LOAD_NODES, Served, ServedLoad, run_ends, run_told}
use Rattle.scalefs_run.proofs.Reading.{served_no_memory}
use Rattle.scalefs_run.proofs.Told.{told_none}
use Rattle.scalefs_run.proofs.top.serve_load.Goals as goal

pub serve_script-requires-clause-ready : goal.serve_script-requires-clause-ready
serve_script-requires-clause-ready g c κs within =
    subst (λ (phases : List (List Line)). All LinesMayRun phases) (sym c.in-Ok.ensures.script) (made_may_run c.args.seed c.args.count c.args.workers)

pub returns-in-Err-clause-served : goal.returns-in-Err-clause-served
returns-in-Err-clause-served g c =
    let written = g.K.Sink.written c.args.sink.now in
    let Wrote = HasRisen (g.K.Sink.faults c.args.sink.now) (g.K.Sink.faults c.args.sink.now) in
    let view = g.D.Disk.view in
    let disk = c.args.disk in
    let none = c.no_calls.ensures in
    told_none (λ d told. ServedLoad c.args.seed c.args.count c.args.workers (run_ends ⊥ Wrote written written (view disk) (view d)) told)
    c.no_calls.result NoMemory disk
    (record { status_is = none.status; history = none.history; turns = none.turns; disk_is = none.disk })
    (served_no_memory LOAD_NODES (made c.args.seed c.args.count c.args.workers) (Load c.args.seed c.args.count c.args.workers) ⊥ Wrote written (view disk))

pub returns-in-Ok-clause-served : goal.returns-in-Ok-clause-served
returns-in-Ok-clause-served g c =
    let sink = c.args.sink.now in
    let last = c.serve_script.new.sink in
    let ran = c.serve_script.result in
    let ends = run_ends ⊥ (HasRisen (g.K.Sink.faults sink) (g.K.Sink.faults last)) (g.K.Sink.written sink) (g.K.Sink.written last)
    (g.D.Disk.view c.args.disk) (g.D.Disk.view ran.disk) in
    let told = run_told ran.status ran.history ran.turns.items in
    subst (λ (phases : List (List Line)). Served (λ judged. judged_status judged phases) LOAD_NODES phases
    (Load c.args.seed c.args.count c.args.workers) ends told) c.in-Ok.ensures.script c.serve_script.ensures.served
