use Rattle.absorb.proofs.OneNet.{one_net as law}
use Rattle.absorb.proofs.laws.there_is_one_net.Goals as goal

pub returns : goal.returns
returns c = law
