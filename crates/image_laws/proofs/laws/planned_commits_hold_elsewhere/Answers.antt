use Rattle.image_laws.proofs.Elsewhere.{planned_commits_hold_elsewhere as law}
use Rattle.image_laws.proofs.laws.planned_commits_hold_elsewhere.Goals as goal

pub returns : goal.returns
returns c = law
