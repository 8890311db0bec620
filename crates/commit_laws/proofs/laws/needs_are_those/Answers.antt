use Rattle.commit_laws.proofs.Ranked.{needs_are_those as law}
use Rattle.commit_laws.proofs.laws.needs_are_those.Goals as goal

pub returns : goal.returns
returns c = law
