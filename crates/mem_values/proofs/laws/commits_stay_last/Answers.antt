use Rattle.mem_values.proofs.Lasting.{commits_stay_last as law}
use Rattle.mem_values.proofs.laws.commits_stay_last.Goals as goal

pub returns : goal.returns
returns c = law
