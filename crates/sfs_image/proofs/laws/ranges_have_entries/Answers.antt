use Rattle.sfs_image.proofs.EntriesLaws.{ranges_have as law}
use Rattle.sfs_image.proofs.laws.ranges_have_entries.Goals as goal

pub returns : goal.returns
returns c = law
