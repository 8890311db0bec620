use Rattle.note_laws.proofs.Answers.{copies_are_files as law}
use Rattle.note_laws.proofs.laws.copies_are_files.Goals as goal

pub returns : goal.returns
returns c = law
