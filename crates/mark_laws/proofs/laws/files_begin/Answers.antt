use Rattle.mark_laws.proofs.Kept.{files_begin as law}
use Rattle.mark_laws.proofs.laws.files_begin.Goals as goal

pub returns : goal.returns
returns c = law
