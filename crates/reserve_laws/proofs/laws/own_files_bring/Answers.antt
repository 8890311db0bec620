use Rattle.reserve_laws.proofs.OwnFile.{own_files_bring as law}
use Rattle.reserve_laws.proofs.laws.own_files_bring.Goals as goal

pub returns : goal.returns
returns c = law
