use Rattle.made_script.proofs.Counted.{as_long}
use Rattle.made_script.proofs.laws.made_scripts_are_as_long.Goals as goal

pub returns : goal.returns
returns c = as_long
