use Rattle.example_laws.proofs.Bytes.{two_image_stands as law}
use Rattle.example_laws.proofs.laws.two_image_stands.Goals as goal

pub returns : goal.returns
returns c = law
