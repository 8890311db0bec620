use Rattle.disk_tree.proofs.ToldRead.{found_is_the_images as law}
use Rattle.disk_tree.proofs.laws.found_is_the_images.Goals as goal

pub returns : goal.returns
returns c = law
