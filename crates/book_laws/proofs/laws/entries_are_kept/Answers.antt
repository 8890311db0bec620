use Rattle.book_laws.proofs.Kept.{entries_are_kept as law}
use Rattle.book_laws.proofs.laws.entries_are_kept.Goals as goal

pub returns : goal.returns
returns c = law
