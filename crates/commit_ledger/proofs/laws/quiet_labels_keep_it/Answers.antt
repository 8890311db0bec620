use Rattle.commit_ledger.proofs.Kept.{quiet_labels_keep_it as the_law}
use Rattle.commit_ledger.proofs.laws.quiet_labels_keep_it.Goals as goal

pub returns : goal.returns
returns c = the_law
