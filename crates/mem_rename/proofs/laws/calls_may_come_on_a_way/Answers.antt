use Rattle.mem_rename.proofs.Stamped.{calls_may_come_on_a_way as law}
use Rattle.mem_rename.proofs.laws.calls_may_come_on_a_way.Goals as goal

pub returns : goal.returns
returns c = law
