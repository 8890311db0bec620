use Rattle.book_laws.proofs.Reserved.{maps_reserve as law}
use Rattle.book_laws.proofs.laws.maps_reserve.Goals as goal

pub returns : goal.returns
returns c = law
