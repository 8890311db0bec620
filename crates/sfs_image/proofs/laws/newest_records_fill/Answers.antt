use Rattle.sfs_image.proofs.GateLaws.{newest_records_fill as law}
use Rattle.sfs_image.proofs.laws.newest_records_fill.Goals as goal

pub returns : goal.returns
returns c = law
