use Rattle.book_laws.proofs.Imagined.{imagined_are_those as law}
use Rattle.book_laws.proofs.laws.imagined_are_those.Goals as goal

pub returns : goal.returns
returns c = law
