use Rattle.sfs_image.proofs.RuleLaws.{apart_from_rule as law}
use Rattle.sfs_image.proofs.laws.blocks_have_one_place.Goals as goal

pub returns : goal.returns
returns c = law
