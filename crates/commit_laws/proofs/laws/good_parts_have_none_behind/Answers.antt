use Rattle.commit_laws.proofs.BytesKept.{good_parts_have_none_behind as law}
use Rattle.commit_laws.proofs.laws.good_parts_have_none_behind.Goals as goal

pub returns : goal.returns
returns c = law
