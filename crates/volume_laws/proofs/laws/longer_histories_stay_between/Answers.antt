use Rattle.volume_laws.proofs.Longer.{longer_histories_stay_between as law}
use Rattle.volume_laws.proofs.laws.longer_histories_stay_between.Goals as goal

pub returns : goal.returns
returns c = law
