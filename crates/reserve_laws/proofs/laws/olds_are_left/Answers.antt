use Rattle.reserve_laws.proofs.Olds.{olds_are_left as law}
use Rattle.reserve_laws.proofs.laws.olds_are_left.Goals as goal

pub returns : goal.returns
returns c = law
