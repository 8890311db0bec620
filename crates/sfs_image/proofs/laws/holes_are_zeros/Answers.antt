use Rattle.sfs_image.proofs.PartLaws.{hole_byte as law}
use Rattle.sfs_image.proofs.laws.holes_are_zeros.Goals as goal

pub returns : goal.returns
returns c = law
