use Rattle.slot_laws.proofs.NodesBack.{returns_restore}
use Rattle.slot_laws.proofs.laws.returns_restore.Goals as goal

pub returns : goal.returns
returns c = returns_restore
