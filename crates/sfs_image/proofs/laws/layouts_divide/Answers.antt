use Rattle.sfs_image.proofs.LayoutLaws.{divided as law}
use Rattle.sfs_image.proofs.laws.layouts_divide.Goals as goal

pub returns : goal.returns
returns c = law
