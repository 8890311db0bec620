use Rattle.crash_laws.proofs.Ends.{refusals_raise_nothing as law}
use Rattle.crash_laws.proofs.laws.refusals_raise_nothing.Goals as goal

pub returns : goal.returns
returns c = law
