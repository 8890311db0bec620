use Rattle.sfs_image.proofs.EntriesLaws.{read_again as law}
use Rattle.sfs_image.proofs.laws.entries_are_read_again.Goals as goal

pub returns : goal.returns
returns c = law
