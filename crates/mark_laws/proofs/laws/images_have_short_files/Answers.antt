use Rattle.mark_laws.proofs.Images.{images_have_short_files as law}
use Rattle.mark_laws.proofs.laws.images_have_short_files.Goals as goal

pub returns : goal.returns
returns c = law
