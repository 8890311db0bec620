use Rattle.look_laws.proofs.Fitting.{late_entries_may_be_missing as law}
use Rattle.look_laws.proofs.laws.late_entries_may_be_missing.Goals as goal

pub returns : goal.returns
returns c = law
