use Rattle.cut_laws.proofs.CoveredRuns.{durables_are_covered as law}
use Rattle.cut_laws.proofs.laws.runs.durables_are_covered.Goals as goal

pub returns : goal.returns
returns c = law
