use Rattle.sfs_image.proofs.ImageOfLaws.{slots_by_gates as law}
use Rattle.sfs_image.proofs.laws.gates_say_which_are_open.Goals as goal

pub returns : goal.returns
returns c = law
