use Rattle.pen_laws.proofs.Closing.{agreements_close as law}
use Rattle.pen_laws.proofs.laws.agreements_close.Goals as goal

pub returns : goal.returns
returns c = law
