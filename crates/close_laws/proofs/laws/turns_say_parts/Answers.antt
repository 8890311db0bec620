use Rattle.close_laws.proofs.Beginning.{turns_say_parts as law}
use Rattle.close_laws.proofs.laws.turns_say_parts.Goals as goal

pub returns : goal.returns
returns c = law
