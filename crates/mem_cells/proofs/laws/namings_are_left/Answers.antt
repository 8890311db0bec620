use Rattle.mem_cells.proofs.Named.{namings_are_left as law}
use Rattle.mem_cells.proofs.laws.namings_are_left.Goals as goal

pub returns : goal.returns
returns c = law
