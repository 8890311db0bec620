use Rattle.history_check.proofs.Histories.{legal_texts_have_legal_histories as law}
use Rattle.history_check.proofs.laws.legal_texts_have_legal_histories.Goals as goal

pub returns : goal.returns
returns c = law
