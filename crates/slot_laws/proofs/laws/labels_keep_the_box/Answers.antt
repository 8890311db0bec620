use Rattle.slot_laws.proofs.NodesBack.{labels_keep_the_box}
use Rattle.slot_laws.proofs.laws.labels_keep_the_box.Goals as goal

pub returns : goal.returns
returns c = labels_keep_the_box
