use Rattle.commit_ledger.proofs.Kept.{unmoved_are_as_seen as the_law}
use Rattle.commit_ledger.proofs.laws.unmoved_are_as_seen.Goals as goal

pub returns : goal.returns
returns c = the_law
