use Rattle.note_laws.proofs.Enough.{notes_are_enough as law}
use Rattle.note_laws.proofs.laws.notes_are_enough.Goals as goal

pub returns : goal.returns
returns c = law
