use Rattle.volume_laws.proofs.Stores.{commits_stay_standing as law}
use Rattle.volume_laws.proofs.laws.commits_stay_standing.Goals as goal

pub returns : goal.returns
returns c = law
