use Rattle.image_laws.proofs.Made.{no_commit_is_a_step as law}
use Rattle.image_laws.proofs.laws.no_commit_is_a_step.Goals as goal

pub returns : goal.returns
returns c = law
