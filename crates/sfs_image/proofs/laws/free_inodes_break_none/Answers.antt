use Rattle.sfs_image.proofs.RuleLaws.{free_breaks_none as law}
use Rattle.sfs_image.proofs.laws.free_inodes_break_none.Goals as goal

pub returns : goal.returns
returns c = law
