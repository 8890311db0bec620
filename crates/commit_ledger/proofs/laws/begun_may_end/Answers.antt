use Rattle.commit_ledger.proofs.Kept.{begun_may_end as the_law}
use Rattle.commit_ledger.proofs.laws.begun_may_end.Goals as goal

pub returns : goal.returns
returns c = the_law
