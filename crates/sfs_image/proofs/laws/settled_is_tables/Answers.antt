use Rattle.sfs_image.proofs.SettledLaws.{settled_tables as law}
use Rattle.sfs_image.proofs.laws.settled_is_tables.Goals as goal

pub returns : goal.returns
returns c = law
