use Rattle.core_logs.proofs.Keeping.{entries_may_be_added as law}
use Rattle.core_logs.proofs.laws.entries_may_be_added.Goals as goal

pub returns : goal.returns
returns c = law
