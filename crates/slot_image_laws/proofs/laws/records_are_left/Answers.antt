use Rattle.slot_image_laws.proofs.Running.{records_are_left as law}
use Rattle.slot_image_laws.proofs.laws.records_are_left.Goals as goal

pub returns : goal.returns
returns g c = law (g.D.Disk.view c.args.disk.now)
