use Rattle.disk_tree.proofs.CountsShown.{count_tests_are_rules as law}
use Rattle.disk_tree.proofs.laws.count_tests_are_rules.Goals as goal

pub returns : goal.returns
returns c = law
