use Rattle.mem_values.proofs.Home.{told_parts_stand as law}
use Rattle.mem_values.proofs.laws.told_parts_stand.Goals as goal

pub returns : goal.returns
returns c = law
