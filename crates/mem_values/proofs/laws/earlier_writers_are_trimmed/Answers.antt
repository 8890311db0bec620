use Rattle.mem_values.proofs.Writers.{earlier_writers_are_trimmed as law}
use Rattle.mem_values.proofs.laws.earlier_writers_are_trimmed.Goals as goal

pub returns : goal.returns
returns c = law
