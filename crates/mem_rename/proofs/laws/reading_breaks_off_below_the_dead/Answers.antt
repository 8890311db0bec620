use Rattle.mem_rename.proofs.Upwards.{reading_breaks_off_below_the_dead as law}
use Rattle.mem_rename.proofs.laws.reading_breaks_off_below_the_dead.Goals as goal

pub returns : goal.returns
returns c = law
