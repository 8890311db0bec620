use Rattle.site_laws.proofs.Sites.{mounts_are_sites as law}
use Rattle.site_laws.proofs.laws.mounts_are_sites.Goals as goal

pub returns : goal.returns
returns c = law
