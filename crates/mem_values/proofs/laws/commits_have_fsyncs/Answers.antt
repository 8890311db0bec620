use Rattle.mem_values.proofs.Writers.{commits_have_fsyncs as law}
use Rattle.mem_values.proofs.laws.commits_have_fsyncs.Goals as goal

pub returns : goal.returns
returns c = law
