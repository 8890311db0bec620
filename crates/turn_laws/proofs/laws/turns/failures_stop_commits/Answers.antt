use Rattle.turn_laws.proofs.Behind.{failures_stop_commits as law}
use Rattle.turn_laws.proofs.laws.turns.failures_stop_commits.Goals as goal

pub returns : goal.returns
returns c = law
