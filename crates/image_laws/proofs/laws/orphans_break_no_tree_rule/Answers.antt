use Rattle.image_laws.proofs.Faults.{orphans_break_no_tree_rule as law}
use Rattle.image_laws.proofs.laws.orphans_break_no_tree_rule.Goals as goal

pub returns : goal.returns
returns c = law
