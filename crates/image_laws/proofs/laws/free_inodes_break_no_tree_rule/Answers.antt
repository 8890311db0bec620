use Rattle.image_laws.proofs.Faults.{free_inodes_break_no_tree_rule as law}
use Rattle.image_laws.proofs.laws.free_inodes_break_no_tree_rule.Goals as goal

pub returns : goal.returns
returns c = law
