use Rattle.scalefs_run.proofs.Crowding.{loads_ask_for_cores as law}
use Rattle.scalefs_run.proofs.laws.loads_ask_for_cores.Goals as goal

pub returns : goal.returns
returns c = law
