use Rattle.slot_image_laws.proofs.Settled.{settles_keep as law}
use Rattle.slot_image_laws.proofs.laws.settles_keep.Goals as goal

pub returns : goal.returns
returns g c = law (g.D.Disk.view c.args.disk.now)
