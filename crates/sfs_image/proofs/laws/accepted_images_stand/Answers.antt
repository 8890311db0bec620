use Rattle.sfs_image.proofs.AcceptedLaws.{accepted_stands as law}
use Rattle.sfs_image.proofs.laws.accepted_images_stand.Goals as goal

pub returns : goal.returns
returns c = law
