use Rattle.mem_rename.proofs.Upwards.{reading_ends_at_the_root as law}
use Rattle.mem_rename.proofs.laws.reading_ends_at_the_root.Goals as goal

pub returns : goal.returns
returns c = law
