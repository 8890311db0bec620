use Rattle.mem_cells.proofs.Named.{outside_namings_tell as law}
use Rattle.mem_cells.proofs.laws.outside_namings_tell.Goals as goal

pub returns : goal.returns
returns c = law
