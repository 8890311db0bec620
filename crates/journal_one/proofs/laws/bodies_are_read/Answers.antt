use Rattle.journal_one.proofs.Bodies.{body_read as law}
use Rattle.journal_one.proofs.laws.bodies_are_read.Goals as goal

pub returns : goal.returns
returns c = law
