use Rattle.mem_rename.proofs.Logged.{renames_log as law}
use Rattle.mem_rename.proofs.laws.renames_log.Goals as goal

pub returns : goal.returns
returns c = law
