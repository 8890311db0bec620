use Rattle.commit_ledger.proofs.Kept.{open_ones_are_told_once as the_law}
use Rattle.commit_ledger.proofs.laws.open_ones_are_told_once.Goals as goal

pub returns : goal.returns
returns c = the_law
