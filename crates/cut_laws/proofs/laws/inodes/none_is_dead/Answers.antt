use Rattle.cut_laws.proofs.KeptInodes.{none_is_dead as law}
use Rattle.cut_laws.proofs.laws.inodes.none_is_dead.Goals as goal

pub returns : goal.returns
returns c = law
