-- Each command does what it says.
use Rattle.std.proofs.Common.{◌≡◌, List, [], refl, sym, subst}
use Rattle.sfs_base.specs.Ends.{HasRisen}
use Rattle.words.specs.declared.command.Command.{Command}
use Rattle.words.specs.declared.command.Command.TheVariants.{Mkfs, Show, Check, Verify}
use Rattle.made_script.specs.Made.{made}
use Rattle.scalefs_run.specs.declared.writing.Writing.TheVariants.{Load}
use Rattle.scalefs_run.specs.Commands.{ServedCommand}
use Rattle.scalefs_run.specs.Due.{judged_status}
use Rattle.scalefs_run.specs.Served.{LOAD_NODES, run_ends, run_told}
use Rattle.scalefs_run.proofs.Reading.{served_made}
use Rattle.scalefs_run.proofs.Told.{told_none}
use Rattle.scalefs_run.proofs.top.serve_command.Goals as goal

pub returns-in-Mkfs-clause-served : goal.returns-in-Mkfs-clause-served
returns-in-Mkfs-clause-served g c =
    let source = c.args.source.now in
    let sink = c.args.sink.now in
    let last = c.make_image-status.new.sink in
    let Read = HasRisen (g.S.Source.faults source) (g.S.Source.faults source) in
    let Wrote = HasRisen (g.K.Sink.faults sink) (g.K.Sink.faults last) in
    let view = g.D.Disk.view in
    let none = c.no_calls.ensures in
    told_none (λ d told. ServedCommand c.args.command (g.S.Source.left source)
    (run_ends Read Wrote (g.K.Sink.written sink) (g.K.Sink.written last) (view c.args.disk) (view d)) told)
    c.no_calls.result c.make_image-status.result c.make_image-status.new.disk
    (record { status_is = none.status; history = none.history; turns = none.turns; disk_is = none.disk })
    (subst (λ (command : Command). ServedCommand command (g.S.Source.left source)
    (run_ends Read Wrote (g.K.Sink.written sink) (g.K.Sink.written last) (view c.args.disk) (view c.make_image-status.new.disk))
    (run_told c.make_image-status.result [] [])) (sym c.in-Mkfs.is) (c.make_image-status.ensures.makes, refl, refl))

pub returns-in-Show-clause-served : goal.returns-in-Show-clause-served
returns-in-Show-clause-served g c =
    let source = c.args.source.now in
    let sink = c.args.sink.now in
    let last = c.show_image-status.new.sink in
    let Read = HasRisen (g.S.Source.faults source) (g.S.Source.faults source) in
    let Wrote = HasRisen (g.K.Sink.faults sink) (g.K.Sink.faults last) in
    let view = g.D.Disk.view in
    let none = c.no_calls-in-Show.ensures in
    told_none (λ d told. ServedCommand c.args.command (g.S.Source.left source)
    (run_ends Read Wrote (g.K.Sink.written sink) (g.K.Sink.written last) (view c.args.disk) (view d)) told)
    c.no_calls-in-Show.result c.show_image-status.result c.show_image-status.new.disk
    (record { status_is = none.status; history = none.history; turns = none.turns; disk_is = none.disk })
    (subst (λ (command : Command). ServedCommand command (g.S.Source.left source)
    (run_ends Read Wrote (g.K.Sink.written sink) (g.K.Sink.written last) (view c.args.disk) (view c.show_image-status.new.disk))
    (run_told c.show_image-status.result [] [])) (sym c.in-Show.is) (c.show_image-status.ensures.shows, refl, refl))

pub returns-in-Check-clause-served : goal.returns-in-Check-clause-served
returns-in-Check-clause-served g c =
    let source = c.args.source.now in
    let sink = c.args.sink.now in
    let last = c.check_source-status.new.sink in
    let Read = HasRisen (g.S.Source.faults source) (g.S.Source.faults c.check_source-status.new.source) in
    let Wrote = HasRisen (g.K.Sink.faults sink) (g.K.Sink.faults last) in
    let view = g.D.Disk.view in
    let none = c.no_calls-in-Check.ensures in
    told_none (λ d told. ServedCommand c.args.command (g.S.Source.left source)
    (run_ends Read Wrote (g.K.Sink.written sink) (g.K.Sink.written last) (view c.args.disk) (view d)) told)
    c.no_calls-in-Check.result c.check_source-status.result c.check_source-status.new.disk
    (record { status_is = none.status; history = none.history; turns = none.turns; disk_is = none.disk })
    (subst (λ (command : Command). ServedCommand command (g.S.Source.left source)
    (run_ends Read Wrote (g.K.Sink.written sink) (g.K.Sink.written last) (view c.args.disk) (view c.check_source-status.new.disk))
    (run_told c.check_source-status.result [] [])) (sym c.in-Check.is) (c.check_source-status.ensures.checks, refl, refl))

pub returns-in-Verify-clause-served : goal.returns-in-Verify-clause-served
returns-in-Verify-clause-served g c =
    let source = c.args.source.now in
    let sink = c.args.sink.now in
    let last = c.verify_image-status.new.sink in
    let Read = HasRisen (g.S.Source.faults source) (g.S.Source.faults source) in
    let Wrote = HasRisen (g.K.Sink.faults sink) (g.K.Sink.faults last) in
    let view = g.D.Disk.view in
    let none = c.no_calls-in-Verify.ensures in
    told_none (λ d told. ServedCommand c.args.command (g.S.Source.left source)
    (run_ends Read Wrote (g.K.Sink.written sink) (g.K.Sink.written last) (view c.args.disk) (view d)) told)
    c.no_calls-in-Verify.result c.verify_image-status.result c.verify_image-status.new.disk
    (record { status_is = none.status; history = none.history; turns = none.turns; disk_is = none.disk })
    (subst (λ (command : Command). ServedCommand command (g.S.Source.left source)
    (run_ends Read Wrote (g.K.Sink.written sink) (g.K.Sink.written last) (view c.args.disk) (view c.verify_image-status.new.disk))
    (run_told c.verify_image-status.result [] [])) (sym c.in-Verify.is) (c.verify_image-status.ensures.verifies, refl, refl))

pub returns-in-Load-clause-served : goal.returns-in-Load-clause-served
returns-in-Load-clause-served g c =
    let seed = c.in-Load.seed in
    let count = c.in-Load.count in
    let workers = c.in-Load.workers in
    let source = c.args.source.now in
    let sink = c.args.sink.now in
    let last = c.serve_load.new.sink in
    let Read = HasRisen (g.S.Source.faults source) (g.S.Source.faults source) in
    let Wrote = HasRisen (g.K.Sink.faults sink) (g.K.Sink.faults last) in
    let old = g.D.Disk.view c.args.disk in
    let ran = c.serve_load.result in
    let new = g.D.Disk.view ran.disk in
    let told = run_told ran.status ran.history ran.turns.items in
    subst (λ (command : Command). ServedCommand command (g.S.Source.left source)
    (run_ends Read Wrote (g.K.Sink.written sink) (g.K.Sink.written last) old new) told)
    (sym c.in-Load.is)
    (served_made (λ judged. judged_status judged (made seed count workers)) LOAD_NODES (made seed count workers) (Load seed count workers) Read Wrote
    (g.K.Sink.written sink) (g.K.Sink.written last) old new told c.serve_load.ensures.served)
