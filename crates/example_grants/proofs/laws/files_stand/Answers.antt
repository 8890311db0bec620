use Rattle.example_grants.proofs.Standing.{walk_begins}
use Rattle.example_grants.proofs.laws.files_stand.Goals as goal

pub returns : goal.returns
returns c = walk_begins
