use Rattle.book_laws.proofs.Plans.{plans_stay as law}
use Rattle.book_laws.proofs.laws.plans_stay.Goals as goal

pub returns : goal.returns
returns c = law
