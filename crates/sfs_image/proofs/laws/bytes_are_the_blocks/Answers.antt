use Rattle.sfs_image.proofs.PartLaws.{byte_of_block as law}
use Rattle.sfs_image.proofs.laws.bytes_are_the_blocks.Goals as goal

pub returns : goal.returns
returns c = law
