use Rattle.commit_laws.proofs.Counting.{nets_count_links as law}
use Rattle.commit_laws.proofs.laws.nets_count_links.Goals as goal

pub returns : goal.returns
returns c = law
