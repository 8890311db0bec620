use Rattle.history_check.proofs.Deeds.{lines_tell_one_entry as law}
use Rattle.history_check.proofs.laws.lines_tell_one_entry.Goals as goal

pub returns : goal.returns
returns c = law
