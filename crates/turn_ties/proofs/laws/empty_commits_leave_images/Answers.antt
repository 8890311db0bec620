use Rattle.turn_ties.proofs.Leaves.{empty_commits_leave_images as law}
use Rattle.turn_ties.proofs.laws.empty_commits_leave_images.Goals as goal

pub returns : goal.returns
returns c = law
