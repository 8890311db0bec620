use Rattle.book_laws.proofs.Walk.{walks_are_booked as law}
use Rattle.book_laws.proofs.laws.walks_are_booked.Goals as goal

pub returns : goal.returns
returns c = law
