use Rattle.cut_laws.proofs.Entries.{entries_may_come as law}
use Rattle.cut_laws.proofs.laws.growth.entries_may_come.Goals as goal

pub returns : goal.returns
returns c = law
