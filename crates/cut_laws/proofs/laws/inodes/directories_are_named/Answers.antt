use Rattle.cut_laws.proofs.KeptInodes.{directories_are_named as law}
use Rattle.cut_laws.proofs.laws.inodes.directories_are_named.Goals as goal

pub returns : goal.returns
returns c = law
