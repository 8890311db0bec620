use Rattle.image_laws.proofs.Orphans.{freed_orphans_keep_the_tree as law}
use Rattle.image_laws.proofs.laws.freed_orphans_keep_the_tree.Goals as goal

pub returns : goal.returns
returns c = law
