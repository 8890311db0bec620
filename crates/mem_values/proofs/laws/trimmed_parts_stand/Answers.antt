use Rattle.mem_values.proofs.Home.{trimmed_parts_stand as law}
use Rattle.mem_values.proofs.laws.trimmed_parts_stand.Goals as goal

pub returns : goal.returns
returns c = law
