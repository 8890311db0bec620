use Rattle.merge_laws.proofs.Told.{merged_tell as law}
use Rattle.merge_laws.proofs.laws.merged_tell.Goals as goal

pub returns : goal.returns
returns c = law
