use Rattle.turn_ties.proofs.Leaves.{commits_leave_images as law}
use Rattle.turn_ties.proofs.laws.commits_leave_images.Goals as goal

pub returns : goal.returns
returns c = law
