use Rattle.log_merge.proofs.OneMerge.{there_is_one_merge as law}
use Rattle.log_merge.proofs.laws.there_is_one_merge.Goals as goal

pub returns : goal.returns
returns c = law
