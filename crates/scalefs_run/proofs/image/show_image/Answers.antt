-- An image is shown, or refused.
use Rattle.std.proofs.Common.{sym, subst}
use Rattle.sfs_base.specs.Ends.{HasRisen}
use Rattle.scalefs_run.specs.declared.outcome.Status.{Status}
use Rattle.scalefs_run.specs.Image.{ShowsImage}
use Rattle.scalefs_run.proofs.Images.{image_shown, image_refused}
use Rattle.scalefs_run.proofs.image.show_image.Goals as goal

pub returns-in-Ok-clause-shows : goal.returns-in-Ok-clause-shows
returns-in-Ok-clause-shows g c =
    let written = g.K.Sink.written in
    let told = c.in-Ok.ensures in
    image_shown (g.D.Disk.view c.args.disk.now) (g.D.Disk.view c.recover.new.disk) c.in-Ok.report
    (HasRisen (g.K.Sink.faults c.args.sink.now) (g.K.Sink.faults c.write_tree.new.sink)) (written c.args.sink.now)
    (written c.write_tree.new.sink) c.write_tree.result
    told.sound.sound told.ok told.moments (λ image is calm. (told.ended image is calm).left) c.write_tree.ensures.status c.write_tree.ensures.text

pub returns-in-Err-clause-shows : goal.returns-in-Err-clause-shows
returns-in-Err-clause-shows g c =
    let written = g.K.Sink.written c.args.sink.now in
    let told = c.in-Err.ensures in
    subst (λ (status : Status). ShowsImage (HasRisen (g.K.Sink.faults c.args.sink.now) (g.K.Sink.faults c.args.sink.now)) written written
    (g.D.Disk.view c.args.disk.now) (g.D.Disk.view c.recover.new.disk) status)
    (sym c.status_of_recovery.ensures)
    (image_refused (g.D.Disk.view c.args.disk.now) (g.D.Disk.view c.recover.new.disk)
    (HasRisen (g.K.Sink.faults c.args.sink.now) (g.K.Sink.faults c.args.sink.now)) written told.moments
    c.in-Err.fault told.bad told.unwritten told.runs.cause)
