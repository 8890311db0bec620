use Rattle.disk_tree.proofs.RowsShown.{row_tests_are_rules as law}
use Rattle.disk_tree.proofs.laws.row_tests_are_rules.Goals as goal

pub returns : goal.returns
returns c = law
