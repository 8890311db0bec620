use Rattle.workers.proofs.Phases as law
use Rattle.workers.proofs.laws.made_part.Goals as goal

pub returns : goal.returns
returns c = law.made_part
