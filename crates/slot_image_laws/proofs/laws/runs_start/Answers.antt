use Rattle.slot_image_laws.proofs.Starts.{runs_start as law}
use Rattle.slot_image_laws.proofs.laws.runs_start.Goals as goal

pub returns : goal.returns
returns g c = law (g.D.Disk.view c.args.disk.now)
