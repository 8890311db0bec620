use Rattle.core_logs.proofs.Keeping.{entries_keep as law}
use Rattle.core_logs.proofs.laws.entries_keep.Goals as goal

pub returns : goal.returns
returns c = law
