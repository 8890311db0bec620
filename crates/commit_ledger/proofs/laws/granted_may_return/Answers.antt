use Rattle.commit_ledger.proofs.Kept.{granted_may_return as the_law}
use Rattle.commit_ledger.proofs.laws.granted_may_return.Goals as goal

pub returns : goal.returns
returns c = the_law
