use Rattle.absorb.proofs.LoggedChanges.{logs_are_changes as law}
use Rattle.absorb.proofs.laws.logs_are_changes.Goals as goal

pub returns : goal.returns
returns c = law
