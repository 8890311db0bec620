use Rattle.sfs_image.proofs.GateLaws.{tables_stay_full as law}
use Rattle.sfs_image.proofs.laws.tables_stay_full.Goals as goal

pub returns : goal.returns
returns c = law
