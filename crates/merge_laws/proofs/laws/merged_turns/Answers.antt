use Rattle.merge_laws.proofs.Merged.{merged_turns as law}
use Rattle.merge_laws.proofs.laws.merged_turns.Goals as goal

pub returns : goal.returns
returns c = law
