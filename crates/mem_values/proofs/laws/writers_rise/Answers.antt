use Rattle.mem_values.proofs.Writers.{writers_rise as law}
use Rattle.mem_values.proofs.laws.writers_rise.Goals as goal

pub returns : goal.returns
returns c = law
