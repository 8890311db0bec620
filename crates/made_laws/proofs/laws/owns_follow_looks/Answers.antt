use Rattle.made_laws.proofs.Owns.{owns_follow_looks as law}
use Rattle.made_laws.proofs.laws.owns_follow_looks.Goals as goal

pub returns : goal.returns
returns c = law
