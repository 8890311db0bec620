use Rattle.turn_ties.proofs.OwnFiles.{own_files_are_touched as law}
use Rattle.turn_ties.proofs.laws.own_files_are_touched.Goals as goal

pub returns : goal.returns
returns c = law
