use Rattle.note_laws.proofs.Gathered.{noted_parts_are_left as law}
use Rattle.note_laws.proofs.laws.noted_parts_are_left.Goals as goal

pub returns : goal.returns
returns c = law
