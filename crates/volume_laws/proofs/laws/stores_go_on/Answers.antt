use Rattle.volume_laws.proofs.Stores.{stores_go_on as law}
use Rattle.volume_laws.proofs.laws.stores_go_on.Goals as goal

pub returns : goal.returns
returns c = law
