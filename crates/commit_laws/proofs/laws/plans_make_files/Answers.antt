use Rattle.commit_laws.proofs.FilesMade.{plans_make_files as law}
use Rattle.commit_laws.proofs.laws.plans_make_files.Goals as goal

pub returns : goal.returns
returns c = law
