use Rattle.image_check.proofs.One.{certificates_are_one as law}
use Rattle.image_check.proofs.laws.certificates_are_one.Goals as goal

pub returns : goal.returns
returns c = law
