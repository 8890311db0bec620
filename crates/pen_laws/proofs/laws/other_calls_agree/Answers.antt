use Rattle.pen_laws.proofs.Growing.{other_calls_agree as law}
use Rattle.pen_laws.proofs.laws.other_calls_agree.Goals as goal

pub returns : goal.returns
returns c = law
