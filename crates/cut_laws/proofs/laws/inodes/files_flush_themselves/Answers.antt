use Rattle.cut_laws.proofs.MemberKinds.{files_flush_themselves as law}
use Rattle.cut_laws.proofs.laws.inodes.files_flush_themselves.Goals as goal

pub returns : goal.returns
returns c = law
