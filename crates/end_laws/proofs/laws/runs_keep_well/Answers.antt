use Rattle.end_laws.proofs.Runs.{runs_keep_well as law}
use Rattle.end_laws.proofs.laws.runs_keep_well.Goals as goal

pub returns : goal.returns
returns c = law
