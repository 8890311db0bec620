use Rattle.merge_laws.proofs.ByTurns.{durables_read_back as law}
use Rattle.merge_laws.proofs.laws.durables_read_back.Goals as goal

pub returns : goal.returns
returns g c = law (g.D.Disk.view c.args.disk.now)
