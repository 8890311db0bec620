use Rattle.commit_laws.proofs.Whole.{built_nodes_show_their_inodes as law}
use Rattle.commit_laws.proofs.laws.built_nodes_show_their_inodes.Goals as goal

pub returns : goal.returns
returns c = law
