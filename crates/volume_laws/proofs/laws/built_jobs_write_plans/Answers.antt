use Rattle.volume_laws.proofs.Commits.{built_jobs_write_plans as law}
use Rattle.volume_laws.proofs.laws.built_jobs_write_plans.Goals as goal

pub returns : goal.returns
returns c = law
