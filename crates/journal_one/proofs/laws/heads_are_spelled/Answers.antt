use Rattle.journal_one.proofs.Bodies.{head_spelled as law}
use Rattle.journal_one.proofs.laws.heads_are_spelled.Goals as goal

pub returns : goal.returns
returns c = law
