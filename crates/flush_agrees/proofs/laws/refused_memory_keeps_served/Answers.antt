use Rattle.flush_agrees.proofs.Growing.{refused_memory_keeps_served as law}
use Rattle.flush_agrees.proofs.laws.refused_memory_keeps_served.Goals as goal

pub returns : goal.returns
returns c = law
