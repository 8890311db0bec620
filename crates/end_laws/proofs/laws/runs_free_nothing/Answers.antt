use Rattle.end_laws.proofs.Runs.{runs_free_nothing as law}
use Rattle.end_laws.proofs.laws.runs_free_nothing.Goals as goal

pub returns : goal.returns
returns c = law
