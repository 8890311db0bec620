use Rattle.commit_laws.proofs.OwnInodes.{inodes_are_granted_or_old as law}
use Rattle.commit_laws.proofs.laws.inodes_are_granted_or_old.Goals as goal

pub returns : goal.returns
returns c = law
