use Rattle.cut_laws.proofs.MemberKinds.{members_are_directories as law}
use Rattle.cut_laws.proofs.laws.inodes.members_are_directories.Goals as goal

pub returns : goal.returns
returns c = law
