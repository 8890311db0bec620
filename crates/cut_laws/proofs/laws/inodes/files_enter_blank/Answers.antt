use Rattle.cut_laws.proofs.BlankFiles.{files_enter_blank as law}
use Rattle.cut_laws.proofs.laws.inodes.files_enter_blank.Goals as goal

pub returns : goal.returns
returns c = law
