use Rattle.merge_laws.proofs.ByTurns.{moments_cut_turns as law}
use Rattle.merge_laws.proofs.laws.moments_cut_turns.Goals as goal

pub returns : goal.returns
returns c = law
