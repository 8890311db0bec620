use Rattle.mem_values.proofs.Writers.{inodes_stay_below as law}
use Rattle.mem_values.proofs.laws.inodes_stay_below.Goals as goal

pub returns : goal.returns
returns c = law
