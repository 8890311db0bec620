use Rattle.sfs_dev.proofs.Moments.{has_moments as law}
use Rattle.sfs_dev.proofs.laws.moments_are_told.Goals as goal

pub returns : goal.returns
returns g c = law _
