use Rattle.std.proofs.Common.{refl}
use Rattle.sfs_tree.proofs.Counted.{IsCounted-new}
use Rattle.sfs_tree.proofs.counts.Counts.new.Goals as goal

pub returns-clause-counted : goal.returns-clause-counted
returns-clause-counted c = λ nodes. IsCounted-new nodes _ c.new.ensures.items c.new-2.ensures.items c.new-3.ensures.items refl
