use Rattle.mem_values.proofs.Worked.{tables_can_be_met as law}
use Rattle.mem_values.proofs.laws.tables_can_be_met.Goals as goal

pub returns : goal.returns
returns c = law
