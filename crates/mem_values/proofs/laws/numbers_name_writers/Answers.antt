use Rattle.mem_values.proofs.Writers.{numbers_name_writers as law}
use Rattle.mem_values.proofs.laws.numbers_name_writers.Goals as goal

pub returns : goal.returns
returns c = law
