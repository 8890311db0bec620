use Rattle.cut_laws.proofs.Tied.{commits_are_tied as law}
use Rattle.cut_laws.proofs.laws.runs.commits_are_tied.Goals as goal

pub returns : goal.returns
returns c = law
