use Rattle.sfs_image.proofs.LayoutLaws.{rings as law}
use Rattle.sfs_image.proofs.laws.rings_lie_core_by_core.Goals as goal

pub returns : goal.returns
returns c = law
