use Rattle.book_laws.proofs.Inodes.{raises_stay as law}
use Rattle.book_laws.proofs.laws.raises_stay.Goals as goal

pub returns : goal.returns
returns c = law
