use Rattle.mem_rename.proofs.Upwards.{read_ways_stay as law}
use Rattle.mem_rename.proofs.laws.read_ways_stay.Goals as goal

pub returns : goal.returns
returns c = law
