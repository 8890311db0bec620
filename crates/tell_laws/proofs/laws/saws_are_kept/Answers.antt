use Rattle.tell_laws.proofs.Kept.{saws_are_kept as law}
use Rattle.tell_laws.proofs.laws.saws_are_kept.Goals as goal

pub returns : goal.returns
returns c = law
