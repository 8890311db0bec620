use Rattle.mem_rename.proofs.Upwards.{reading_goes_up as law}
use Rattle.mem_rename.proofs.laws.reading_goes_up.Goals as goal

pub returns : goal.returns
returns c = law
