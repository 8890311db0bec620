use Rattle.beside_laws.proofs.Boxes.{boxes_give as law}
use Rattle.beside_laws.proofs.laws.boxes_give.Goals as goal

pub returns : goal.returns
returns c = law
