use Rattle.book_laws.proofs.Lacked.{maps_lack as law}
use Rattle.book_laws.proofs.laws.maps_lack.Goals as goal

pub returns : goal.returns
returns c = law
