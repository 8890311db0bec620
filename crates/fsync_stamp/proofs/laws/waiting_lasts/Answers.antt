use Rattle.fsync_stamp.proofs.Waiting as law
use Rattle.fsync_stamp.proofs.laws.waiting_lasts.Goals as goal

pub returns : goal.returns
returns c = law.waiting_lasts
