use Rattle.sfs_image.proofs.ShownLaws.{bytes_shown as law}
use Rattle.sfs_image.proofs.laws.files_show_their_bytes.Goals as goal

pub returns : goal.returns
returns c = law
