use Rattle.beside_laws.proofs.OneCut.{fsyncs_raise_one_cut as law}
use Rattle.beside_laws.proofs.laws.fsyncs_raise_one_cut.Goals as goal

pub returns : goal.returns
returns c = law
