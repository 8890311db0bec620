use Rattle.sfs_image.proofs.MadeLaws.{made_turns as law}
use Rattle.sfs_image.proofs.laws.made_parts_turn.Goals as goal

pub returns : goal.returns
returns c = law
