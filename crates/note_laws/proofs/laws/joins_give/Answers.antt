use Rattle.note_laws.proofs.Joining.{joins_give as law}
use Rattle.note_laws.proofs.laws.joins_give.Goals as goal

pub returns : goal.returns
returns c = law
