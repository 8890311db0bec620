use Rattle.end_laws.proofs.Rests.{closed_pens_rest as law}
use Rattle.end_laws.proofs.laws.closed_pens_rest.Goals as goal

pub returns : goal.returns
returns g c = law g.D.Disk.view
