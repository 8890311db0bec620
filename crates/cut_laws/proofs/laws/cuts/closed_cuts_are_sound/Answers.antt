use Rattle.cut_laws.proofs.Closed.{closed_cuts_are_sound as law}
use Rattle.cut_laws.proofs.laws.cuts.closed_cuts_are_sound.Goals as goal

pub returns : goal.returns
returns c = law
