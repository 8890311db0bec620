use Rattle.commit_laws.proofs.BytesKept.{plans_keep_parts as law}
use Rattle.commit_laws.proofs.laws.plans_keep_parts.Goals as goal

pub returns : goal.returns
returns c = law
