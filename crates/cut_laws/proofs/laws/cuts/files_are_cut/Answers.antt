use Rattle.cut_laws.proofs.CutNodes.{files_are_cut as law}
use Rattle.cut_laws.proofs.laws.cuts.files_are_cut.Goals as goal

pub returns : goal.returns
returns c = law
