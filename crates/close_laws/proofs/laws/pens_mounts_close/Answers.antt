use Rattle.close_laws.proofs.PensClose.{pens_mounts_close as law}
use Rattle.close_laws.proofs.laws.pens_mounts_close.Goals as goal

pub returns : goal.returns
returns g c = law (g.D.Disk.view c.args.disk.now)
