use Rattle.note_laws.proofs.There.{touched_were_there as law}
use Rattle.note_laws.proofs.laws.touched_were_there.Goals as goal

pub returns : goal.returns
returns c = law
