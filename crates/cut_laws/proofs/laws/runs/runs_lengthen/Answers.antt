use Rattle.cut_laws.proofs.LongerRuns.{runs_lengthen as law}
use Rattle.cut_laws.proofs.laws.runs.runs_lengthen.Goals as goal

pub returns : goal.returns
returns c = law
