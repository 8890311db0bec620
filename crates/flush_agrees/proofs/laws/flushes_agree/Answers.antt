use Rattle.flush_agrees.proofs.Flushed.{flushes_agree as law}
use Rattle.flush_agrees.proofs.laws.flushes_agree.Goals as goal

pub returns : goal.returns
returns g c = law _
