use Rattle.slot_image_laws.proofs.Held.{durable_commits_stand as law}
use Rattle.slot_image_laws.proofs.laws.durable_commits_stand.Goals as goal

pub returns : goal.returns
returns c = law
