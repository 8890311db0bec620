use Rattle.sfs_image.proofs.PartLaws.{gather_same as law}
use Rattle.sfs_image.proofs.laws.parts_are_what_they_reach.Goals as goal

pub returns : goal.returns
returns c = law
