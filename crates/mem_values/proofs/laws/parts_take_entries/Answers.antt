use Rattle.mem_values.proofs.Home.{parts_take_entries as law}
use Rattle.mem_values.proofs.laws.parts_take_entries.Goals as goal

pub returns : goal.returns
returns c = law
