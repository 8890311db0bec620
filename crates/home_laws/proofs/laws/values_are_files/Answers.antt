use Rattle.home_laws.proofs.Files.{values_are_files as law}
use Rattle.home_laws.proofs.laws.values_are_files.Goals as goal

pub returns : goal.returns
returns c = law
