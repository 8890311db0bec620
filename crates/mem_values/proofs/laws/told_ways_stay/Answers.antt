use Rattle.mem_values.proofs.Moves.{told_ways_stay as law}
use Rattle.mem_values.proofs.laws.told_ways_stay.Goals as goal

pub returns : goal.returns
returns c = law
