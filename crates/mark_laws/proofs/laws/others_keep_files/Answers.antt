use Rattle.mark_laws.proofs.Kept.{others_keep_files as law}
use Rattle.mark_laws.proofs.laws.others_keep_files.Goals as goal

pub returns : goal.returns
returns c = law
