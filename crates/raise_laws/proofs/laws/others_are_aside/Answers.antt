use Rattle.raise_laws.proofs.Next.{others_are_aside as law}
use Rattle.raise_laws.proofs.laws.others_are_aside.Goals as goal

pub returns : goal.returns
returns c = law
