use Rattle.image_laws.proofs.Sizes.{commits_keep_directories_fit as law}
use Rattle.image_laws.proofs.laws.commits_keep_directories_fit.Goals as goal

pub returns : goal.returns
returns c = law
