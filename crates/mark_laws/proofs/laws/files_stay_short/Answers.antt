use Rattle.mark_laws.proofs.Short.{files_stay_short as law}
use Rattle.mark_laws.proofs.laws.files_stay_short.Goals as goal

pub returns : goal.returns
returns c = law
