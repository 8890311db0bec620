use Rattle.image_laws.proofs.Committed.{commits_hold_their_blocks as law}
use Rattle.image_laws.proofs.laws.commits_hold_their_blocks.Goals as goal

pub returns : goal.returns
returns c = law
