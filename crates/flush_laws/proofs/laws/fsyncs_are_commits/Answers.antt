use Rattle.flush_laws.proofs.Later.{fsyncs_are_commits as law}
use Rattle.flush_laws.proofs.laws.fsyncs_are_commits.Goals as goal

pub returns : goal.returns
returns c = law
