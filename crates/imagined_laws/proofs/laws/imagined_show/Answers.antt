use Rattle.imagined_laws.proofs.Parts.{imagined_show as law}
use Rattle.imagined_laws.proofs.laws.imagined_show.Goals as goal

pub returns : goal.returns
returns c = law
