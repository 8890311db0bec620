use Rattle.book_laws.proofs.Placed.{places_reserve as law}
use Rattle.book_laws.proofs.laws.places_reserve.Goals as goal

pub returns : goal.returns
returns c = law
