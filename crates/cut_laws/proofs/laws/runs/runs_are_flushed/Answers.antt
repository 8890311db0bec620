use Rattle.cut_laws.proofs.RaisedRuns.{runs_are_flushed as law}
use Rattle.cut_laws.proofs.laws.runs.runs_are_flushed.Goals as goal

pub returns : goal.returns
returns c = law
