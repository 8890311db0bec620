use Rattle.mem_rename.proofs.Verdicts.{renames_are_as_seen as law}
use Rattle.mem_rename.proofs.laws.renames_are_as_seen.Goals as goal

pub returns : goal.returns
returns c = law
