use Rattle.mem_files.proofs.Inside.{truncations_stay_inside as law}
use Rattle.mem_files.proofs.laws.truncations_stay_inside.Goals as goal

pub returns : goal.returns
returns c = law
