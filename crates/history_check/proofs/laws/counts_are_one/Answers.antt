use Rattle.history_check.proofs.Reached.{counts_are_one as law}
use Rattle.history_check.proofs.laws.counts_are_one.Goals as goal

pub returns : goal.returns
returns c = law
