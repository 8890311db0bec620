use Rattle.mem_rename.proofs.Decided.{decided}
use Rattle.mem_rename.proofs.laws.decisions_are_verdicts.Goals as goal

pub returns : goal.returns
returns c = λ move seen. decided seen move
