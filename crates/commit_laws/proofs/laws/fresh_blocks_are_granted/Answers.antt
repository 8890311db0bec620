use Rattle.commit_laws.proofs.Granted.{fresh_blocks_are_granted as law}
use Rattle.commit_laws.proofs.laws.fresh_blocks_are_granted.Goals as goal

pub returns : goal.returns
returns c = law
