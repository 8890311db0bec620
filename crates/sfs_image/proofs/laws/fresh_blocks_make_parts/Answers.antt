use Rattle.sfs_image.proofs.ImageOfLaws.{fresh_make as law}
use Rattle.sfs_image.proofs.laws.fresh_blocks_make_parts.Goals as goal

pub returns : goal.returns
returns c = law
