use Rattle.mark_laws.proofs.Made.{marks_make_files as law}
use Rattle.mark_laws.proofs.laws.marks_make_files.Goals as goal

pub returns : goal.returns
returns c = law
