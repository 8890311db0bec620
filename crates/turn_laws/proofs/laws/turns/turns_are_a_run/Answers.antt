use Rattle.turn_laws.proofs.Machines.{turns_are_a_run as law}
use Rattle.turn_laws.proofs.laws.turns.turns_are_a_run.Goals as goal

pub returns : goal.returns
returns c = law
