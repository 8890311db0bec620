use Rattle.sfs_dev.proofs.Moments.{counts_rise as law}
use Rattle.sfs_dev.proofs.laws.counts_rise.Goals as goal

pub returns : goal.returns
returns c = law
