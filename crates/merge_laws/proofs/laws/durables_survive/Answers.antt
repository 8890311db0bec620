use Rattle.merge_laws.proofs.ByTurns.{durables_survive as law}
use Rattle.merge_laws.proofs.laws.durables_survive.Goals as goal

pub returns : goal.returns
returns g c = law (g.D.Disk.view c.args.disk.now)
