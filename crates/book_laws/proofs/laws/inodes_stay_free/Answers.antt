use Rattle.book_laws.proofs.Free.{inodes_stay_free as law}
use Rattle.book_laws.proofs.laws.inodes_stay_free.Goals as goal

pub returns : goal.returns
returns c = law
