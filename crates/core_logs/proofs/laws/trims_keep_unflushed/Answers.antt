use Rattle.core_logs.proofs.Keeping.{trims_keep_unflushed as law}
use Rattle.core_logs.proofs.laws.trims_keep_unflushed.Goals as goal

pub returns : goal.returns
returns c = law
