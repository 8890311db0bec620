use Rattle.flush_agrees.proofs.Growing.{other_calls_keep as law}
use Rattle.flush_agrees.proofs.laws.other_calls_keep.Goals as goal

pub returns : goal.returns
returns g c = law _
