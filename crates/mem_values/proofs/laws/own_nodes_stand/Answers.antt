use Rattle.mem_values.proofs.Home.{own_nodes_stand as law}
use Rattle.mem_values.proofs.laws.own_nodes_stand.Goals as goal

pub returns : goal.returns
returns c = law
