use Rattle.book_laws.proofs.GoOn.{maps_go_on as law}
use Rattle.book_laws.proofs.laws.maps_go_on.Goals as goal

pub returns : goal.returns
returns c = law
