use Rattle.plan_laws.proofs.Leads.{live_files_are_written as law}
use Rattle.plan_laws.proofs.laws.live_files_are_written.Goals as goal

pub returns : goal.returns
returns c = law
