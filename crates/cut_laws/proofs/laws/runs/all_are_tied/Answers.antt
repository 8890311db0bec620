use Rattle.cut_laws.proofs.LongerRuns.{all_are_tied as law}
use Rattle.cut_laws.proofs.laws.runs.all_are_tied.Goals as goal

pub returns : goal.returns
returns c = law
