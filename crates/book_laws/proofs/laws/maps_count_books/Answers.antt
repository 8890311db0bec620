use Rattle.book_laws.proofs.Counted.{maps_count_books as law}
use Rattle.book_laws.proofs.laws.maps_count_books.Goals as goal

pub returns : goal.returns
returns c = law
