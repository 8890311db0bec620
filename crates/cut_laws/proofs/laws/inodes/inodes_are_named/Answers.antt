use Rattle.cut_laws.proofs.NewNodes.{inodes_are_named as law}
use Rattle.cut_laws.proofs.laws.inodes.inodes_are_named.Goals as goal

pub returns : goal.returns
returns c = law
