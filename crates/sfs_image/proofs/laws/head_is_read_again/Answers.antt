use Rattle.sfs_image.proofs.JournalLaws.{head_of-head_bytes}
use Rattle.sfs_image.proofs.laws.head_is_read_again.Goals as goal

pub returns : goal.returns
returns c = head_of-head_bytes
