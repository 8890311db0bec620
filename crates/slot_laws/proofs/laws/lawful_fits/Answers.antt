use Rattle.slot_laws.proofs.Lawful.{lawful_fits as law}
use Rattle.slot_laws.proofs.laws.lawful_fits.Goals as goal

pub returns : goal.returns
returns c = law
