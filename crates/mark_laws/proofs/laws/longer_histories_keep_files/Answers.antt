use Rattle.mark_laws.proofs.Kept.{longer_histories_keep_files as law}
use Rattle.mark_laws.proofs.laws.longer_histories_keep_files.Goals as goal

pub returns : goal.returns
returns c = law
