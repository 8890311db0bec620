use Rattle.landing_laws.proofs.Drafted.{drafts_are_made as law}
use Rattle.landing_laws.proofs.laws.drafts_are_made.Goals as goal

pub returns : goal.returns
returns c = law
