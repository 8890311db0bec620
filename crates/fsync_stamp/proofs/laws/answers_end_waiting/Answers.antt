use Rattle.fsync_stamp.proofs.Waiting as law
use Rattle.fsync_stamp.proofs.laws.answers_end_waiting.Goals as goal

pub returns : goal.returns
returns c = law.answers_end_waiting
