use Rattle.cut_laws.proofs.KeptInodes.{files_settle as law}
use Rattle.cut_laws.proofs.laws.inodes.files_settle.Goals as goal

pub returns : goal.returns
returns c = law
