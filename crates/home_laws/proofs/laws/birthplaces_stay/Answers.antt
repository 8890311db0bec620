use Rattle.home_laws.proofs.Birthplaces.{birthplaces_stay as law}
use Rattle.home_laws.proofs.laws.birthplaces_stay.Goals as goal

pub returns : goal.returns
returns c = law
