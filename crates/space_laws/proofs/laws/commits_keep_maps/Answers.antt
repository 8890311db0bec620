use Rattle.space_laws.proofs.Committed.{commits_keep_maps as law}
use Rattle.space_laws.proofs.laws.commits_keep_maps.Goals as goal

pub returns : goal.returns
returns c = law
