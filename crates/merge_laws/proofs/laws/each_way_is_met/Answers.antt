use Rattle.merge_laws.proofs.WorkedWays.{each_way_is_met as law}
use Rattle.merge_laws.proofs.laws.each_way_is_met.Goals as goal

pub returns : goal.returns
returns c = law
