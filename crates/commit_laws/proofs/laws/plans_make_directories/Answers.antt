use Rattle.commit_laws.proofs.DirectoriesMade.{plans_make_directories as law}
use Rattle.commit_laws.proofs.laws.plans_make_directories.Goals as goal

pub returns : goal.returns
returns c = law
