use Rattle.mem_cells.proofs.Left.{entries_are_kept as law}
use Rattle.mem_cells.proofs.laws.entries_are_kept.Goals as goal

pub returns : goal.returns
returns c = law
