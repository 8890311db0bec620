use Rattle.reserve_laws.proofs.Fits.{told_reserve as law}
use Rattle.reserve_laws.proofs.laws.told_reserve.Goals as goal

pub returns : goal.returns
returns c = law
