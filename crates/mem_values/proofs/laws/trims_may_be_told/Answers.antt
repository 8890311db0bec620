use Rattle.mem_values.proofs.Telling.{trims_may_be_told as law}
use Rattle.mem_values.proofs.laws.trims_may_be_told.Goals as goal

pub returns : goal.returns
returns c = law
