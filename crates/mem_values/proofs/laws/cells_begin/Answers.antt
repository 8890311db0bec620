use Rattle.mem_values.proofs.Begun.{cells_begin as law}
use Rattle.mem_values.proofs.laws.cells_begin.Goals as goal

pub returns : goal.returns
returns c = law
