use Rattle.book_laws.proofs.Walk.{records_are_kept as law}
use Rattle.book_laws.proofs.laws.records_are_kept.Goals as goal

pub returns : goal.returns
returns c = law
