use Rattle.sfs_dev.proofs.Moments.{has_both_ends as law}
use Rattle.sfs_dev.proofs.laws.both_ends_are_moments.Goals as goal

pub returns : goal.returns
returns g c = law _ _
