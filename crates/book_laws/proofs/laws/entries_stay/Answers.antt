use Rattle.book_laws.proofs.Entries.{entries_stay as law}
use Rattle.book_laws.proofs.laws.entries_stay.Goals as goal

pub returns : goal.returns
returns c = law
