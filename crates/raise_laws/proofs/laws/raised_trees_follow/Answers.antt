use Rattle.raise_laws.proofs.Next.{raised_trees_follow as law}
use Rattle.raise_laws.proofs.laws.raised_trees_follow.Goals as goal

pub returns : goal.returns
returns c = law
