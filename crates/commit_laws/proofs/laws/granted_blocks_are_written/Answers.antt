use Rattle.commit_laws.proofs.AllWritten.{granted_blocks_are_written as law}
use Rattle.commit_laws.proofs.laws.granted_blocks_are_written.Goals as goal

pub returns : goal.returns
returns c = law
