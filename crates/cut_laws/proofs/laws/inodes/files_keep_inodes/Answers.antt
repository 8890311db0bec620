use Rattle.cut_laws.proofs.OwnFiles.{files_keep_inodes as law}
use Rattle.cut_laws.proofs.laws.inodes.files_keep_inodes.Goals as goal

pub returns : goal.returns
returns c = law
