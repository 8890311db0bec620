use Rattle.raise_laws.proofs.Spans.{spans_make_rows as law}
use Rattle.raise_laws.proofs.laws.spans_make_rows.Goals as goal

pub returns : goal.returns
returns c = law
