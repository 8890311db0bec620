use Rattle.image_laws.proofs.Mounted.{rules_make_standing as law}
use Rattle.image_laws.proofs.laws.rules_make_standing.Goals as goal

pub returns : goal.returns
returns c = law
