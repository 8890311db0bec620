use Rattle.commit_laws.proofs.KeptShown.{kept_parts_show as law}
use Rattle.commit_laws.proofs.laws.kept_parts_show.Goals as goal

pub returns : goal.returns
returns c = law
