use Rattle.book_laws.proofs.Placed.{places_lack as law}
use Rattle.book_laws.proofs.laws.places_lack.Goals as goal

pub returns : goal.returns
returns c = law
