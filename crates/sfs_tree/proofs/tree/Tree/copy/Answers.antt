use Rattle.std.proofs.Common.{subst}
use Rattle.tree_laws.specs.Sound.{IsNumbered}
use Rattle.sfs_tree.proofs.Founded.{founded_numbers}
use Rattle.sfs_tree.proofs.tree.Tree.copy.Goals as goal

pub returns-clause-numbered : goal.returns-clause-numbered
returns-clause-numbered c = subst IsNumbered c.self.view_is (founded_numbers _ c.self.invariant)

pub returns-in_err-copied-clause-numbered : goal.returns-in_err-copied-clause-numbered
returns-in_err-copied-clause-numbered c = subst IsNumbered c.self.view_is (founded_numbers _ c.self.invariant)
