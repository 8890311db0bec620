use Rattle.image_laws.proofs.LinkChanges.{nets_give_links as law}
use Rattle.image_laws.proofs.laws.nets_give_links.Goals as goal

pub returns : goal.returns
returns c = law
