-- Each way in which a script ends that was read.
use Rattle.std.proofs.Common.{◌≡◌, ℕ, List, Some, None, sym, ap, subst, ◌∙◌}
use Rattle.std.specs.List.{AllByRecursion}
use Rattle.sfs_base.specs.Ends.{HasRisen}
use Rattle.sfs_dev.specs.Run.{Advances}
use Rattle.script.specs.declared.commands.Line.{Line}
use Rattle.script.specs.Ready.{LinesMayRun}
use Rattle.mount.specs.Phases.{HaveWorkers}
use Rattle.scalefs_run.specs.Due.{judged_status}
use Rattle.scalefs_run.specs.Image.{status_of_recovery}
use Rattle.scalefs_run.specs.Ran.{HasCalls}
use Rattle.scalefs_run.specs.Served.{Served, run_ends, run_told}
use Rattle.scalefs_run.specs.WithoutCore.{worker_without_core}
use Rattle.scalefs_run.specs.Writing.{text_behind}
use Rattle.scalefs_run.specs.declared.outcome.Status.TheVariants.{NoMemory, TooManyWorkers}
use Rattle.scalefs_run.proofs.Serving.{served_refused, served_run, served_unbegun, served_without_core}
use Rattle.scalefs_run.proofs.Told.{told_kept, told_none, was_mounted}
use Rattle.scalefs_run.proofs.Within.{by_recursion, within_all}
use Rattle.scalefs_run.proofs.scripts.serve_script.Goals as goal

pub returns-in-Err-clause-served : goal.returns-in-Err-clause-served
returns-in-Err-clause-served g c =
    let view = g.D.Disk.view in
    let old = view c.args.disk in
    let new = view c.mount.new.disk in
    let sink = c.args.sink.now in
    let phases = c.args.script.now in
    let Sink = HasRisen (g.K.Sink.faults sink) (g.K.Sink.faults sink) in
    let written = g.K.Sink.written sink in
    let none = c.no_calls.ensures in
    let ends = c.in-Err.ensures in
    told_none (λ d told. Served (λ judged. judged_status judged phases) c.args.nodes phases c.args.writing (run_ends ⊥ Sink written written old (view d)) told)
    c.no_calls.result (status_of_recovery c.in-Err.fault) c.mount.new.disk
    (record {
      status_is = none.status ∙ c.status_of_recovery-status.ensures;
      history = none.history;
      turns = none.turns;
      disk_is = none.disk;
    })
    (served_refused c.args.nodes phases c.args.writing Sink written old new c.mount.ensures.moments c.in-Err.fault ends.bad ends.refused ends.runs.cause)

pub returns-in-Some-clause-served : goal.returns-in-Some-clause-served
returns-in-Some-clause-served g c =
    let view = g.D.Disk.view in
    let old = view c.args.disk in
    let new = view c.mount.new.disk in
    let sink = c.args.sink.now in
    let phases = c.args.script.now in
    let Sink = HasRisen (g.K.Sink.faults sink) (g.K.Sink.faults sink) in
    let written = g.K.Sink.written sink in
    let none = c.no_calls-in-Some.ensures in
    let is = c.in-Ok.ensures in
    let begun = c.in-Ok.begun in
    let have_is = c.cores_of-have.ensures in
    let found : worker_without_core begun.layout.cores phases ≡ Some c.in-Some.asked =
    ap (λ n. worker_without_core n phases) (sym have_is) ∙ ap (worker_without_core c.cores_of-have.result) (sym c.phases.ensures)
    ∙ sym c.first_worker_without_core.ensures ∙ c.in-Some.is in
    told_none (λ d told. Served (λ judged. judged_status judged phases) c.args.nodes phases c.args.writing (run_ends ⊥ Sink written written old (view d)) told)
    c.no_calls-in-Some.result (TooManyWorkers c.in-Some.asked c.from-in-Some.result) c.mount.new.disk
    (record {
      status_is = none.status ∙ ap (λ n. TooManyWorkers n c.from-in-Some.result) c.from.ensures;
      history = none.history;
      turns = none.turns;
      disk_is = none.disk;
    })
    (served_without_core c.args.nodes begun phases c.args.writing old new
    (was_mounted c.args.nodes begun old new is.ok is.sound c.mount.ensures.moments is.ended is.runs.advances) Sink written c.in-Some.asked c.from-in-Some.result
    (c.from-in-Some.ensures ∙ have_is) found)

pub run_begun-requires-clause-was : goal.run_begun-requires-clause-was
run_begun-requires-clause-was g c κs within =
    let view = g.D.Disk.view in
    let is = c.in-Ok.ensures in (
      c.args.disk,
      was_mounted c.args.nodes c.in-Ok.begun (view c.args.disk) (view c.mount.new.disk) is.ok is.sound c.mount.ensures.moments is.ended is.runs.advances,
    )

pub run_begun-requires-clause-ready : goal.run_begun-requires-clause-ready
run_begun-requires-clause-ready g c κs within =
    subst (λ (p : List (List Line)). AllByRecursion LinesMayRun p) (sym c.phases-2.ensures)
    (by_recursion LinesMayRun c.args.script.now c.requires.ready)

pub run_begun-requires-clause-within : goal.run_begun-requires-clause-within
run_begun-requires-clause-within g c κs within =
    let cores = c.in-Ok.begun.layout.cores in
    let have_is = c.cores_of-have.ensures in
    let none : worker_without_core cores c.args.script.now ≡ None =
    ap (λ n. worker_without_core n c.args.script.now) (sym have_is) ∙ ap (worker_without_core c.cores_of-have.result) (sym c.phases.ensures)
    ∙ sym c.first_worker_without_core.ensures ∙ c.in_default.is in
    subst (λ (p : List (List Line)). AllByRecursion (HaveWorkers cores) p) (sym c.phases-2.ensures) (within_all cores c.args.script.now none)

pub returns-in-Ok-run_begun-clause-served : goal.returns-in-Ok-run_begun-clause-served
returns-in-Ok-run_begun-clause-served g c =
    let view = g.D.Disk.view in
    let nodes = c.args.nodes in
    let writing = c.args.writing in
    let old = view c.args.disk in
    let mid = view c.mount.new.disk in
    let sink = c.args.sink.now in
    let last = c.end_run.new.sink in
    let phases = c.args.script.now in
    let begun = c.in-Ok.begun in
    let Sink = HasRisen (g.K.Sink.faults sink) (g.K.Sink.faults last) in
    let before = g.K.Sink.written sink in
    let after = g.K.Sink.written last in
    let is = c.in-Ok.ensures in
    let ran = c.in-Ok-run_begun.ran in
    let status = c.end_run.result.status in
    let ended = c.end_run.ensures in
    let was = was_mounted nodes begun old mid is.ok is.sound c.mount.ensures.moments is.ended is.runs.advances in
    let have_is = c.cores_of-have.ensures in
    let none : worker_without_core begun.layout.cores phases ≡ None =
    ap (λ n. worker_without_core n phases) (sym have_is) ∙ ap (worker_without_core c.cores_of-have.result) (sym c.phases.ensures)
    ∙ sym c.first_worker_without_core.ensures ∙ c.in_default.is in
    told_kept (λ d told. Served (λ judged. judged_status judged phases) nodes phases writing (run_ends ⊥ Sink before after old (view d)) told)
    c.end_run.result ran.history ran.turns ran.disk ended.history ended.turns ended.disk
    (served_run nodes begun phases writing old mid was Sink before after (view ran.disk) (run_told status ran.history ran.turns.items) none
    (c.in-Ok-run_begun.ensures.leaves c.args.disk was) ended.status
    (ended.calls phases (subst (λ (p : List (List Line)). HasCalls p ran.history ran.ended) c.phases-2.ensures c.in-Ok-run_begun.ensures.calls))
    (ended.text (text_behind writing begun.tree ran.history) c.in-Ok-run_begun.ensures.due))

pub returns-in-Ok-run_begun-clause-advances : goal.returns-in-Ok-run_begun-clause-advances
returns-in-Ok-run_begun-clause-advances g c =
    let view = g.D.Disk.view in
    let old = view c.args.disk in
    let mid = view c.mount.new.disk in
    let is = c.in-Ok.ensures in
    subst (λ d. Advances old (view d)) (sym c.end_run.ensures.disk)
    (c.in-Ok-run_begun.ensures.leaves c.args.disk
    (was_mounted c.args.nodes c.in-Ok.begun old mid is.ok is.sound c.mount.ensures.moments is.ended is.runs.advances)).advances

pub returns-in-Err-run_begun-clause-served : goal.returns-in-Err-run_begun-clause-served
returns-in-Err-run_begun-clause-served g c =
    let view = g.D.Disk.view in
    let old = view c.args.disk in
    let new = view c.mount.new.disk in
    let sink = c.args.sink.now in
    let phases = c.args.script.now in
    let Sink = HasRisen (g.K.Sink.faults sink) (g.K.Sink.faults sink) in
    let written = g.K.Sink.written sink in
    let none = c.no_calls-in-Err-run_begun.ensures in
    let is = c.in-Ok.ensures in
    told_none (λ d told. Served (λ judged. judged_status judged phases) c.args.nodes phases c.args.writing (run_ends ⊥ Sink written written old (view d)) told)
    c.no_calls-in-Err-run_begun.result NoMemory c.mount.new.disk
    (record { status_is = none.status; history = none.history; turns = none.turns; disk_is = none.disk ∙ c.in-Err-run_begun.ensures.refused })
    (served_unbegun c.args.nodes c.in-Ok.begun phases c.args.writing old new
    (was_mounted c.args.nodes c.in-Ok.begun old new is.ok is.sound c.mount.ensures.moments is.ended is.runs.advances) Sink written)
