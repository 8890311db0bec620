-- An image is made on a disk that is large enough.
use Rattle.std.proofs.Common.{ℕ, List, subst, ◌∙◌}
use Rattle.sfs_base.specs.Ends.{HasRisen}
use Rattle.scalefs_run.specs.Outcome.{HasText}
use Rattle.scalefs_run.proofs.Images.{image_made}
use Rattle.scalefs_run.proofs.image.make_large_image.Goals as goal

pub returns-in-Ok-mkfs-clause-makes : goal.returns-in-Ok-mkfs-clause-makes
returns-in-Ok-mkfs-clause-makes g c =
    let written = g.K.Sink.written in
    image_made c.args.layout.now (g.D.Disk.view c.args.disk.now) (g.D.Disk.view c.mkfs.new.disk)
    (HasRisen (g.K.Sink.faults c.args.sink.now) (g.K.Sink.faults c.write_text.new.sink)) (written c.args.sink.now)
    (written c.write_text.new.sink) c.write_text.result
    c.requires c.in-Ok-mkfs.ensures.made c.write_text.ensures.status c.write_text.ensures.has
    (subst (λ (text : List ℕ). HasText text (written c.args.sink.now) (written c.write_text.new.sink) c.write_text.result)
    (c.as_bytes.ensures.value ∙ c.in-Ok.ensures) c.write_text.ensures.text)
