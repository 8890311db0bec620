use Rattle.flush_agrees.proofs.Stamps.{stamps_are_given as law}
use Rattle.flush_agrees.proofs.laws.stamps_are_given.Goals as goal

pub returns : goal.returns
returns g c = law _
