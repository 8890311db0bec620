use Rattle.tree_laws.proofs.OwnEntries.{own_entries_are_cores as law}
use Rattle.tree_laws.proofs.laws.own_entries_are_cores.Goals as goal

pub returns : goal.returns
returns c = law
