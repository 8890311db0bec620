use Rattle.image_laws.proofs.Committed.{commits_keep_standing as law}
use Rattle.image_laws.proofs.laws.commits_keep_standing.Goals as goal

pub returns : goal.returns
returns c = law
