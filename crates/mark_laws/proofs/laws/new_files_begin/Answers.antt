use Rattle.mark_laws.proofs.Kept.{new_files_begin as law}
use Rattle.mark_laws.proofs.laws.new_files_begin.Goals as goal

pub returns : goal.returns
returns c = law
