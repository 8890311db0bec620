use Rattle.std.proofs.Common.{subst}
use Rattle.mem_cells.specs.Log.{Log, IsInOrder}
use Rattle.mem_cells.proofs.log.DirectoryLog.get.Goals as goal

pub returns-clause-ordered : goal.returns-clause-ordered
returns-clause-ordered c = subst (λ (log : Log). IsInOrder log.changes) c.self.view_is c.self.invariant.in_order
