use Rattle.flush_laws.proofs.Later.{fsyncs_keep_entries as law}
use Rattle.flush_laws.proofs.laws.fsyncs_keep_entries.Goals as goal

pub returns : goal.returns
returns c = law
