use Rattle.disk_tree.proofs.PartsSound.{faultless_parts_are_ruled as law}
use Rattle.disk_tree.proofs.laws.faultless_parts_are_ruled.Goals as goal

pub returns : goal.returns
returns c = law
