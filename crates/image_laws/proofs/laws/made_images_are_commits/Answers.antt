use Rattle.image_laws.proofs.Made.{made_images_are_commits as law}
use Rattle.image_laws.proofs.laws.made_images_are_commits.Goals as goal

pub returns : goal.returns
returns c = law
