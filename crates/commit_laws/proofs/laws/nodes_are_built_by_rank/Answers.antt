use Rattle.commit_laws.proofs.Ranked.{nodes_are_built_by_rank as law}
use Rattle.commit_laws.proofs.laws.nodes_are_built_by_rank.Goals as goal

pub returns : goal.returns
returns c = law
