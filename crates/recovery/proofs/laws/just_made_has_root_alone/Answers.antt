use Rattle.recovery.proofs.RootAlone.{just_made_has_root_alone as law}
use Rattle.recovery.proofs.laws.just_made_has_root_alone.Goals as goal

pub returns : goal.returns
returns c = law
