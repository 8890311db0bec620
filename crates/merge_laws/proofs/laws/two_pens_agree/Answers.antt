use Rattle.merge_laws.proofs.Worked.{two_pens_agree as law}
use Rattle.merge_laws.proofs.laws.two_pens_agree.Goals as goal

pub returns : goal.returns
returns c = law
