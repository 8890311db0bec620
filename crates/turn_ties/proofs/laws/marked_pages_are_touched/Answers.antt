use Rattle.turn_ties.proofs.Touched.{marked_pages_are_touched as law}
use Rattle.turn_ties.proofs.laws.marked_pages_are_touched.Goals as goal

pub returns : goal.returns
returns c = law
