use Rattle.reserve_laws.proofs.Olds.{numbers_rise_on as law}
use Rattle.reserve_laws.proofs.laws.numbers_rise_on.Goals as goal

pub returns : goal.returns
returns c = law
