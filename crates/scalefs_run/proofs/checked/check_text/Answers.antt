-- A text is checked over what is mounted, or the image is refused.
use Rattle.std.proofs.Common.{Some, refl, sym, subst, ◌∙◌}
use Rattle.sfs_base.specs.Ends.{HasRisen}
use Rattle.scalefs_run.specs.Checked.{ChecksHistory}
use Rattle.scalefs_run.specs.Served.{run_ends}
use Rattle.scalefs_run.specs.declared.outcome.Status.{Status}
use Rattle.scalefs_run.proofs.Checking.{check_ended, check_refused, cores_are}
use Rattle.scalefs_run.proofs.Serving.{no_tree}
use Rattle.scalefs_run.proofs.checked.check_text.Goals as goal

pub returns-in-Ok-clause-checks : goal.returns-in-Ok-clause-checks
returns-in-Ok-clause-checks g c =
    let sink = c.args.sink.now in
    let last = c.check_over.new.sink in
    let mounted = c.in-Ok.ensures in
    check_ended c.args.nodes c.args.text.now (HasRisen (g.K.Sink.faults sink) (g.K.Sink.faults last)) (g.K.Sink.written sink) (g.K.Sink.written last)
    (g.D.Disk.view c.args.disk.now) (g.D.Disk.view c.mount.new.disk) c.requires.short mounted.moments c.in-Ok.mounted c.check_over.result mounted.sound
    mounted.ok mounted.ended c.check_over.ensures

pub returns-in-Err-clause-checks : goal.returns-in-Err-clause-checks
returns-in-Err-clause-checks g c =
    let sink = c.args.sink.now in
    let old = g.D.Disk.view c.args.disk.now in
    let new = g.D.Disk.view c.mount.new.disk in
    let written = g.K.Sink.written sink in
    let Sink = HasRisen (g.K.Sink.faults sink) (g.K.Sink.faults sink) in
    let refused = c.in-Err.ensures in
    subst (λ (status : Status). ChecksHistory c.args.nodes (Some c.args.text.now) (run_ends ⊥ Sink written written old new) status)
    (sym c.status_of_recovery.ensures)
    (check_refused c.args.nodes (Some c.args.text.now) c.args.text.now refl ⊥ Sink written old new no_tree refused.moments c.requires.short c.in-Err.fault
    refused.bad refused.refused refused.runs.cause)

pub cores_of-cores-requires : goal.cores_of-cores-requires
cores_of-cores-requires g c = c.in-Ok.ensures.sound.fits.ranges

pub check_over-requires-clause-cores : goal.check_over-requires-clause-cores
check_over-requires-clause-cores g c =
    c.cores_of-cores.ensures ∙ cores_are c.args.nodes (g.D.Disk.view c.args.disk.now).size c.in-Ok.mounted c.in-Ok.ensures.sound

pub check_over-requires-clause-sound : goal.check_over-requires-clause-sound
check_over-requires-clause-sound g c = c.in-Ok.ensures.sound.sound.sound
