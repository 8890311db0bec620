use Rattle.sfs_image.proofs.WrittenLaws.{data_written as law}
use Rattle.sfs_image.proofs.laws.data_writes_keep.Goals as goal

pub returns : goal.returns
returns c = law
