use Rattle.flush_agrees.proofs.Growing.{new_pairs_agree as law}
use Rattle.flush_agrees.proofs.laws.new_pairs_agree.Goals as goal

pub returns : goal.returns
returns g c = law _
