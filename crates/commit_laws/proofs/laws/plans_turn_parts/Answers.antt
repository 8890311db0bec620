use Rattle.commit_laws.proofs.PartsTurned.{plans_turn_parts as law}
use Rattle.commit_laws.proofs.laws.plans_turn_parts.Goals as goal

pub returns : goal.returns
returns c = law
