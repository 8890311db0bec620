-- Words ask for something, or they are refused.
use Rattle.std.proofs.Common.{Result, Global, map, string_bytes, ℕ, sym, subst, ◌∙◌}
use Rattle.sfs_base.specs.Ends.{HasRisen}
use Rattle.words.specs.declared.command.Command.{Command}
use Rattle.words.specs.Words.{command_asked}
use Rattle.scalefs_run.specs.Outcome.{status_of_words}
use Rattle.scalefs_run.specs.Commands.{ServedWords}
use Rattle.scalefs_run.specs.Served.{run_ends, run_told}
use Rattle.scalefs_run.proofs.Told.{told_none}
use Rattle.scalefs_run.proofs.Unread.{refused_words}
use Rattle.scalefs_run.proofs.top.run.Goals as goal

pub returns-in-Ok-clause-served : goal.returns-in-Ok-clause-served
returns-in-Ok-clause-served g c =
    let sink = c.args.sink.now in
    let source = c.args.source.now in
    let Read = HasRisen (g.S.Source.faults source) (g.S.Source.faults c.serve_command.new.source) in
    let Wrote = HasRisen (g.K.Sink.faults sink) (g.K.Sink.faults c.serve_command.new.sink) in
    let left = c.serve_command.result in
    subst (λ (asked : Result Command ℕ). ServedWords asked (g.S.Source.left source)
    (run_ends Read Wrote (g.K.Sink.written sink) (g.K.Sink.written c.serve_command.new.sink) (g.D.Disk.view c.args.disk) (g.D.Disk.view left.disk))
    (run_told left.status left.history left.turns.items))
    (sym c.in-Ok.ensures.command) c.serve_command.ensures.served

pub returns-in-Err-clause-served : goal.returns-in-Err-clause-served
returns-in-Err-clause-served g c =
    let asked = command_asked (map (string_bytes {Z = Global}) c.args.words.now) in
    let left = g.S.Source.left c.args.source.now in
    let Read = HasRisen (g.S.Source.faults c.args.source.now) (g.S.Source.faults c.args.source.now) in
    let Wrote = HasRisen (g.K.Sink.faults c.args.sink.now) (g.K.Sink.faults c.args.sink.now) in
    let written = g.K.Sink.written c.args.sink.now in
    let view = g.D.Disk.view in
    let disk = c.args.disk in
    let none = c.no_calls.ensures in
    told_none (λ d told. ServedWords asked left (run_ends Read Wrote written written (view disk) (view d)) told) c.no_calls.result
    (status_of_words c.in-Err.fault) disk
    (record { status_is = none.status ∙ c.status_of_words.ensures; history = none.history; turns = none.turns; disk_is = none.disk })
    (refused_words left Read Wrote written (view disk) asked c.in-Err.fault c.in-Err.ensures.command)
