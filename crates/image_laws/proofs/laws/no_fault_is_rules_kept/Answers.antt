use Rattle.image_laws.proofs.Faults.{no_fault_is_rules_kept as law}
use Rattle.image_laws.proofs.laws.no_fault_is_rules_kept.Goals as goal

pub returns : goal.returns
returns c = law
