use Rattle.sfs_image.proofs.LayoutLaws.{numbered as law}
use Rattle.sfs_image.proofs.laws.slots_are_numbered.Goals as goal

pub returns : goal.returns
returns c = law
