use Rattle.flush_laws.proofs.Later.{fsyncs_leave_ready as law}
use Rattle.flush_laws.proofs.laws.fsyncs_leave_ready.Goals as goal

pub returns : goal.returns
returns c = law
