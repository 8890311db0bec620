use Rattle.sfs_image.proofs.ShownLaws.{slots_shown as law}
use Rattle.sfs_image.proofs.laws.directories_show_their_slots.Goals as goal

pub returns : goal.returns
returns c = law
