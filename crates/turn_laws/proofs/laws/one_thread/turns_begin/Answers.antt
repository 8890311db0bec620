use Rattle.turn_laws.proofs.Standing.{turns_begin as law}
use Rattle.turn_laws.proofs.laws.one_thread.turns_begin.Goals as goal

pub returns : goal.returns
returns c = law
