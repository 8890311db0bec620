use Rattle.cut_laws.proofs.CutNodes.{cuts_keep_kinds as law}
use Rattle.cut_laws.proofs.laws.cuts.cuts_keep_kinds.Goals as goal

pub returns : goal.returns
returns c = law
