use Rattle.flush_laws.proofs.Journal.{jobs_show_commits as law}
use Rattle.flush_laws.proofs.laws.jobs_show_commits.Goals as goal

pub returns : goal.returns
returns c = law
