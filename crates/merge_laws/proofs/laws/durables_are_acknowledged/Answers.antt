use Rattle.merge_laws.proofs.ByTurns.{durables_are_acknowledged as law}
use Rattle.merge_laws.proofs.laws.durables_are_acknowledged.Goals as goal

pub returns : goal.returns
returns c = law
