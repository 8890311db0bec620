use Rattle.mem_rename.proofs.Moved.{renames_need_lock as law}
use Rattle.mem_rename.proofs.laws.renames_need_lock.Goals as goal

pub returns : goal.returns
returns c = law
