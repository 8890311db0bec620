use Rattle.commit_laws.proofs.Whole.{changes_leave_trees as law}
use Rattle.commit_laws.proofs.laws.changes_leave_trees.Goals as goal

pub returns : goal.returns
returns c = law
