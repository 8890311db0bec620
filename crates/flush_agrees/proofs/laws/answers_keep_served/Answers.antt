use Rattle.flush_agrees.proofs.Growing.{answers_keep_served as law}
use Rattle.flush_agrees.proofs.laws.answers_keep_served.Goals as goal

pub returns : goal.returns
returns c = law
