use Rattle.core_logs.proofs.Gathered.{unflushed_is_gathered as law}
use Rattle.core_logs.proofs.laws.unflushed_is_gathered.Goals as goal

pub returns : goal.returns
returns c = law
