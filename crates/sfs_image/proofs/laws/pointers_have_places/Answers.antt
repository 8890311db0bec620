use Rattle.sfs_image.proofs.PartLaws.{have_places as law}
use Rattle.sfs_image.proofs.laws.pointers_have_places.Goals as goal

pub returns : goal.returns
returns c = law
