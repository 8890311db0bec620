use Rattle.mem_rename.proofs.Home.{moved_buckets_show as law}
use Rattle.mem_rename.proofs.laws.moved_buckets_show.Goals as goal

pub returns : goal.returns
returns c = law
