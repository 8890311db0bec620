use Rattle.sfs_image.proofs.FieldLaws.{fields_have_places as law}
use Rattle.sfs_image.proofs.laws.fields_have_places.Goals as goal

pub returns : goal.returns
returns c = law
