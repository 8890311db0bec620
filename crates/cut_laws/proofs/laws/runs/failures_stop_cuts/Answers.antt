use Rattle.cut_laws.proofs.CoveredRuns.{failures_stop_cuts as law}
use Rattle.cut_laws.proofs.laws.runs.failures_stop_cuts.Goals as goal

pub returns : goal.returns
returns c = law
