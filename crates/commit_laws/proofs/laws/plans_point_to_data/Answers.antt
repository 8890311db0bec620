use Rattle.commit_laws.proofs.PartsTurned.{plans_point_to_data as law}
use Rattle.commit_laws.proofs.laws.plans_point_to_data.Goals as goal

pub returns : goal.returns
returns c = law
