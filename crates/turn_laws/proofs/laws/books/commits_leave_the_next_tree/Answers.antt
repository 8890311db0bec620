use Rattle.turn_laws.proofs.Left.{commits_leave_the_next_tree as law}
use Rattle.turn_laws.proofs.laws.books.commits_leave_the_next_tree.Goals as goal

pub returns : goal.returns
returns c = law
