use Rattle.turn_ties.proofs.Made.{rests_go_on as law}
use Rattle.turn_ties.proofs.laws.rests_go_on.Goals as goal

pub returns : goal.returns
returns c = law
