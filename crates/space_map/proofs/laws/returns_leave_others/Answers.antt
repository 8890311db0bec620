use Rattle.space_map.proofs.Others.{returns_leave_others as law}
use Rattle.space_map.proofs.laws.returns_leave_others.Goals as goal

pub returns : goal.returns
returns c = law
