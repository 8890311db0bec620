use Rattle.mem_values.proofs.Keeping.{calls_keep_cells as law}
use Rattle.mem_values.proofs.laws.calls_keep_cells.Goals as goal

pub returns : goal.returns
returns c = law
