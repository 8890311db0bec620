use Rattle.flush_agrees.proofs.Growing.{same_fsyncs_keep_served as law}
use Rattle.flush_agrees.proofs.laws.same_fsyncs_keep_served.Goals as goal

pub returns : goal.returns
returns c = law
