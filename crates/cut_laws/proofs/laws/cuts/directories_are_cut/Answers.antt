use Rattle.cut_laws.proofs.CutRows.{directories_are_cut as law}
use Rattle.cut_laws.proofs.laws.cuts.directories_are_cut.Goals as goal

pub returns : goal.returns
returns c = law
