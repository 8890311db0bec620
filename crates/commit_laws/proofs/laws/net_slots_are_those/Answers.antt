use Rattle.commit_laws.proofs.SlotsKept.{net_slots_are_those as law}
use Rattle.commit_laws.proofs.laws.net_slots_are_those.Goals as goal

pub returns : goal.returns
returns c = law
