use Rattle.history_check.proofs.Reached.{legal_histories_have_legal_texts as law}
use Rattle.history_check.proofs.laws.legal_histories_have_legal_texts.Goals as goal

pub returns : goal.returns
returns c = law
