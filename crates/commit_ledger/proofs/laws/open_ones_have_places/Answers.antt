use Rattle.commit_ledger.proofs.Kept.{open_ones_have_places as the_law}
use Rattle.commit_ledger.proofs.laws.open_ones_have_places.Goals as goal

pub returns : goal.returns
returns c = the_law
