use Rattle.commit_laws.proofs.Rewritten.{same_rewrites_take_the_same as law}
use Rattle.commit_laws.proofs.laws.same_rewrites_take_the_same.Goals as goal

pub returns : goal.returns
returns c = law
