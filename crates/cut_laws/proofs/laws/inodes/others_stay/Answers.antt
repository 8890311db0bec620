use Rattle.cut_laws.proofs.KeptInodes.{others_stay as law}
use Rattle.cut_laws.proofs.laws.inodes.others_stay.Goals as goal

pub returns : goal.returns
returns c = law
