use Rattle.image_laws.proofs.FirstFault.{first_fault_is_least as law}
use Rattle.image_laws.proofs.laws.first_fault_is_least.Goals as goal

pub returns : goal.returns
returns c = law
