use Rattle.disk_tree.proofs.ToldRead.{faults_are_the_images as law}
use Rattle.disk_tree.proofs.laws.faults_are_the_images.Goals as goal

pub returns : goal.returns
returns c = law
