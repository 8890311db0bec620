use Rattle.sfs_image.proofs.SettledLaws.{settled_newest as law}
use Rattle.sfs_image.proofs.laws.settled_is_newest.Goals as goal

pub returns : goal.returns
returns c = law
