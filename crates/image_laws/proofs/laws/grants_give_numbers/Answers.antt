use Rattle.image_laws.proofs.Numbers.{grants_give_numbers as law}
use Rattle.image_laws.proofs.laws.grants_give_numbers.Goals as goal

pub returns : goal.returns
returns c = law
