use Rattle.sfs_image.proofs.ImageOfLaws.{read_as as law}
use Rattle.sfs_image.proofs.laws.images_stand_for_parts.Goals as goal

pub returns : goal.returns
returns c = law
