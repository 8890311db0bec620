use Rattle.end_laws.proofs.Begins.{begun_disks_go_on as law}
use Rattle.end_laws.proofs.laws.begun_disks_go_on.Goals as goal

pub returns : goal.returns
returns g c = law (g.D.Disk.view c.args.disk.now) (g.D.Disk.view c.args.later.now)
