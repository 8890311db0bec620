use Rattle.sfs_image.proofs.WrittenLaws.{body_written as law}
use Rattle.sfs_image.proofs.laws.body_writes_keep.Goals as goal

pub returns : goal.returns
returns c = law
