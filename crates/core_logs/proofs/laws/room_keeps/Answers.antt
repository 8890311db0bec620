use Rattle.core_logs.proofs.Keeping.{room_keeps as law}
use Rattle.core_logs.proofs.laws.room_keeps.Goals as goal

pub returns : goal.returns
returns c = law
