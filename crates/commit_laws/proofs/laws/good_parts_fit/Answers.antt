use Rattle.commit_laws.proofs.BytesKept.{good_parts_fit as law}
use Rattle.commit_laws.proofs.laws.good_parts_fit.Goals as goal

pub returns : goal.returns
returns c = law
