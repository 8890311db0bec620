use Rattle.mem_values.proofs.Writers.{root_is_kept as law}
use Rattle.mem_values.proofs.laws.root_is_kept.Goals as goal

pub returns : goal.returns
returns c = law
