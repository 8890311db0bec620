use Rattle.cut_laws.proofs.LongerRuns.{empty_runs as law}
use Rattle.cut_laws.proofs.laws.runs.empty_runs.Goals as goal

pub returns : goal.returns
returns c = law
