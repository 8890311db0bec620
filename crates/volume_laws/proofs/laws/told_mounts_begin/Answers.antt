use Rattle.volume_laws.proofs.ToldMounts.{told_mounts_begin as law}
use Rattle.volume_laws.proofs.laws.told_mounts_begin.Goals as goal

pub returns : goal.returns
returns c = law
