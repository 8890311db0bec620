use Rattle.close_laws.proofs.Records.{labels_are_one_record as law}
use Rattle.close_laws.proofs.laws.labels_are_one_record.Goals as goal

pub returns : goal.returns
returns c = law
