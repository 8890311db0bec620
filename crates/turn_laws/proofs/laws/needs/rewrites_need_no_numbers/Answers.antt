use Rattle.turn_laws.proofs.Numberless.{rewrites_need_no_numbers as law}
use Rattle.turn_laws.proofs.laws.needs.rewrites_need_no_numbers.Goals as goal

pub returns : goal.returns
returns c = law
