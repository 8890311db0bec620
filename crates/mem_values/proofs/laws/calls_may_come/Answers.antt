use Rattle.mem_values.proofs.Stamping.{calls_may_come as law}
use Rattle.mem_values.proofs.laws.calls_may_come.Goals as goal

pub returns : goal.returns
returns c = law
