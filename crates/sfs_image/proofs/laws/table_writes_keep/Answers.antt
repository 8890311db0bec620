use Rattle.sfs_image.proofs.WrittenLaws.{table_written as law}
use Rattle.sfs_image.proofs.laws.table_writes_keep.Goals as goal

pub returns : goal.returns
returns c = law
