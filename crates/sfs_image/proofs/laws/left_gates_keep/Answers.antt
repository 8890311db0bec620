use Rattle.sfs_image.proofs.WrittenLaws.{gate_written as law}
use Rattle.sfs_image.proofs.laws.left_gates_keep.Goals as goal

pub returns : goal.returns
returns c = law
