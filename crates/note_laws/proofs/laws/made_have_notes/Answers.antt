use Rattle.note_laws.proofs.Noting.{made_have_notes as law}
use Rattle.note_laws.proofs.laws.made_have_notes.Goals as goal

pub returns : goal.returns
returns c = law
