use Rattle.raise_laws.proofs.Next.{same_stamps_keep as law}
use Rattle.raise_laws.proofs.laws.same_stamps_keep.Goals as goal

pub returns : goal.returns
returns c = law
