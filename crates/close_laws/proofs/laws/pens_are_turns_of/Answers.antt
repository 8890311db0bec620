use Rattle.close_laws.proofs.PensClose.{pens_are_turns_of as law}
use Rattle.close_laws.proofs.laws.pens_are_turns_of.Goals as goal

pub returns : goal.returns
returns c = law
