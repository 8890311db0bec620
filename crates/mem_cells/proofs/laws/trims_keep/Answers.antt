use Rattle.mem_cells.proofs.Left.{trims_keep as law}
use Rattle.mem_cells.proofs.laws.trims_keep.Goals as goal

pub returns : goal.returns
returns c = law
