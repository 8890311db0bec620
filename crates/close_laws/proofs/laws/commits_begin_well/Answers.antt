use Rattle.close_laws.proofs.Beginning.{commits_begin_well as law}
use Rattle.close_laws.proofs.laws.commits_begin_well.Goals as goal

pub returns : goal.returns
returns c = law
