use Rattle.tree_laws.proofs.Logs.{logs_erase as law}
use Rattle.tree_laws.proofs.laws.logs_erase.Goals as goal

pub returns : goal.returns
returns c = law
