use Rattle.beside_laws.proofs.Files.{own_files_may_be_open as law}
use Rattle.beside_laws.proofs.laws.own_files_may_be_open.Goals as goal

pub returns : goal.returns
returns c = law
