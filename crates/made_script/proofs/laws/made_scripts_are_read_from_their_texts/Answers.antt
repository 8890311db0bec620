use Rattle.made_script.proofs.Counted.{read_from_their_texts}
use Rattle.made_script.proofs.laws.made_scripts_are_read_from_their_texts.Goals as goal

pub returns : goal.returns
returns c = read_from_their_texts
