use Rattle.cut_laws.proofs.KeptInodes.{directories_stay_named as law}
use Rattle.cut_laws.proofs.laws.inodes.directories_stay_named.Goals as goal

pub returns : goal.returns
returns c = law
