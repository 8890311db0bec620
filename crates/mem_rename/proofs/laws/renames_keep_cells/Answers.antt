use Rattle.mem_rename.proofs.Kept.{renames_keep_cells as law}
use Rattle.mem_rename.proofs.laws.renames_keep_cells.Goals as goal

pub returns : goal.returns
returns c = law
