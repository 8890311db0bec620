use Rattle.mem_values.proofs.Home.{moved_locks_stand as law}
use Rattle.mem_values.proofs.laws.moved_locks_stand.Goals as goal

pub returns : goal.returns
returns c = law
