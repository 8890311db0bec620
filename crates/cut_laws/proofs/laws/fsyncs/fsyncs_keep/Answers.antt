use Rattle.cut_laws.proofs.Commit.{fsyncs_keep as law}
use Rattle.cut_laws.proofs.laws.fsyncs.fsyncs_keep.Goals as goal

pub returns : goal.returns
returns c = law
