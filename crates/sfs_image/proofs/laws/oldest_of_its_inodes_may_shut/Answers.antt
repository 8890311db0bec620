use Rattle.sfs_image.proofs.GateLaws.{oldest_may_shut as law}
use Rattle.sfs_image.proofs.laws.oldest_of_its_inodes_may_shut.Goals as goal

pub returns : goal.returns
returns c = law
