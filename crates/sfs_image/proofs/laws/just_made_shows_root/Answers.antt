use Rattle.sfs_image.proofs.JustMadeLaws.{just_made_shows as law}
use Rattle.sfs_image.proofs.laws.just_made_shows_root.Goals as goal

pub returns : goal.returns
returns c = law
