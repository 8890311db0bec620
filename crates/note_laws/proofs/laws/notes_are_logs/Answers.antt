use Rattle.note_laws.proofs.Gathered.{notes_are_logs as law}
use Rattle.note_laws.proofs.laws.notes_are_logs.Goals as goal

pub returns : goal.returns
returns c = law
