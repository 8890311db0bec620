use Rattle.close_laws.proofs.PensFit.{pens_have_turns as law}
use Rattle.close_laws.proofs.laws.pens_have_turns.Goals as goal

pub returns : goal.returns
returns c = law
