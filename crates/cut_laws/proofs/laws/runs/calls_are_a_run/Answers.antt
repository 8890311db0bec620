use Rattle.cut_laws.proofs.Entries.{calls_are_a_run as law}
use Rattle.cut_laws.proofs.laws.runs.calls_are_a_run.Goals as goal

pub returns : goal.returns
returns c = law
