use Rattle.commit_laws.proofs.Shown.{built_nodes_show as law}
use Rattle.commit_laws.proofs.laws.built_nodes_show.Goals as goal

pub returns : goal.returns
returns c = law
