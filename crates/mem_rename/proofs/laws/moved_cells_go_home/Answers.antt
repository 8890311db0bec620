use Rattle.mem_rename.proofs.Homecoming.{moved_cells_go_home as law}
use Rattle.mem_rename.proofs.laws.moved_cells_go_home.Goals as goal

pub returns : goal.returns
returns c = law
