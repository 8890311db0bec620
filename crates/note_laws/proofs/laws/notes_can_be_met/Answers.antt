use Rattle.note_laws.proofs.Worked.{notes_can_be_met as law}
use Rattle.note_laws.proofs.laws.notes_can_be_met.Goals as goal

pub returns : goal.returns
returns c = law
