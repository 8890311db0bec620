use Rattle.cut_laws.proofs.RunsKeep.{runs_keep as law}
use Rattle.cut_laws.proofs.laws.runs.runs_keep.Goals as goal

pub returns : goal.returns
returns c = law
