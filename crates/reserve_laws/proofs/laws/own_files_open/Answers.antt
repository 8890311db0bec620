use Rattle.reserve_laws.proofs.OwnFile.{own_files_open as law}
use Rattle.reserve_laws.proofs.laws.own_files_open.Goals as goal

pub returns : goal.returns
returns c = law
