use Rattle.example_grants.proofs.Bytes.{files_image_stands as law}
use Rattle.example_grants.proofs.laws.files_image_stands.Goals as goal

pub returns : goal.returns
returns c = law
