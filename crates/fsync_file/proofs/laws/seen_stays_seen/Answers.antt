use Rattle.fsync_file.proofs.Seen.{has_still_seen}
use Rattle.fsync_file.proofs.laws.seen_stays_seen.Goals as goal

pub returns : goal.returns
returns c = has_still_seen
