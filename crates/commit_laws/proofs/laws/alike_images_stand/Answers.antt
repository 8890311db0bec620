use Rattle.commit_laws.proofs.PartsStand.{alike_images_stand as law}
use Rattle.commit_laws.proofs.laws.alike_images_stand.Goals as goal

pub returns : goal.returns
returns c = law
