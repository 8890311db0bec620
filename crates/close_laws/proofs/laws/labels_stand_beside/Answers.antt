use Rattle.close_laws.proofs.Beginning.{labels_stand_beside as law}
use Rattle.close_laws.proofs.laws.labels_stand_beside.Goals as goal

pub returns : goal.returns
returns c = law
