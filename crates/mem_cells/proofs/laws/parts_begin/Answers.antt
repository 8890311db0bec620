use Rattle.mem_cells.proofs.Left.{parts_begin as law}
use Rattle.mem_cells.proofs.laws.parts_begin.Goals as goal

pub returns : goal.returns
returns c = law
