use Rattle.example_grants.proofs.Labels.{writers_tell_labels as law}
use Rattle.example_grants.proofs.laws.writers_tell_labels.Goals as goal

pub returns : goal.returns
returns c = law
