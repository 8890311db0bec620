use Rattle.crash_laws.proofs.Ends.{images_survive as law}
use Rattle.crash_laws.proofs.laws.images_survive.Goals as goal

pub returns : goal.returns
returns g c = law (g.D.Disk.view c.args.disk.now)
