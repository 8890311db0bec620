use Rattle.book_laws.proofs.Placed.{maps_go_along as law}
use Rattle.book_laws.proofs.laws.maps_go_along.Goals as goal

pub returns : goal.returns
returns c = law
