use Rattle.space_map.proofs.Others.{ends_leave_others as law}
use Rattle.space_map.proofs.laws.ends_leave_others.Goals as goal

pub returns : goal.returns
returns c = law
