use Rattle.flush_agrees.proofs.Closing.{agreements_end as law}
use Rattle.flush_agrees.proofs.laws.agreements_end.Goals as goal

pub returns : goal.returns
returns g c = law _
