use Rattle.sfs_image.proofs.SettledLaws.{journal_faults_first as law}
use Rattle.sfs_image.proofs.laws.journal_faults_are_first.Goals as goal

pub returns : goal.returns
returns c = law
