use Rattle.home_laws.proofs.Written.{written_values_stand as law}
use Rattle.home_laws.proofs.laws.written_values_stand.Goals as goal

pub returns : goal.returns
returns c = law
