use Rattle.crash_laws.proofs.Untouched.{disks_stay as law}
use Rattle.crash_laws.proofs.laws.disks_stay.Goals as goal

pub returns : goal.returns
returns g c = law (g.D.Disk.view c.args.disk.now)
