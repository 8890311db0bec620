use Rattle.cut_laws.proofs.LongerRuns.{commits_are_accepted as law}
use Rattle.cut_laws.proofs.laws.runs.commits_are_accepted.Goals as goal

pub returns : goal.returns
returns c = law
