use Rattle.pen_laws.proofs.Growing.{new_cores_agree as law}
use Rattle.pen_laws.proofs.laws.new_cores_agree.Goals as goal

pub returns : goal.returns
returns c = law
