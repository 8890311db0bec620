use Rattle.fsync_file.proofs.Seen.{has_seen}
use Rattle.fsync_file.proofs.laws.answered_cores_have_seen.Goals as goal

pub returns : goal.returns
returns c = has_seen
