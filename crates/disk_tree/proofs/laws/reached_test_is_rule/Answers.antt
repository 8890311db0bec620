use Rattle.disk_tree.proofs.ReachedShown.{reached_test_is_rule as law}
use Rattle.disk_tree.proofs.laws.reached_test_is_rule.Goals as goal

pub returns : goal.returns
returns c = law
