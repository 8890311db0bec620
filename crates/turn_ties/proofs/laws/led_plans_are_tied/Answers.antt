use Rattle.turn_ties.proofs.Led.{led_plans_are_tied as law}
use Rattle.turn_ties.proofs.laws.led_plans_are_tied.Goals as goal

pub returns : goal.returns
returns c = law
