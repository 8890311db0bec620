use Rattle.home_laws.proofs.Named.{logs_name_nodes as law}
use Rattle.home_laws.proofs.laws.logs_name_nodes.Goals as goal

pub returns : goal.returns
returns c = law
