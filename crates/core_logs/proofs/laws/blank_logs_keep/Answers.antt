use Rattle.core_logs.proofs.Keeping.{blank_logs_keep as law}
use Rattle.core_logs.proofs.laws.blank_logs_keep.Goals as goal

pub returns : goal.returns
returns c = law
