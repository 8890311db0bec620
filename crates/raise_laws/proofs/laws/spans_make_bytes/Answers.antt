use Rattle.raise_laws.proofs.Spans.{spans_make_bytes as law}
use Rattle.raise_laws.proofs.laws.spans_make_bytes.Goals as goal

pub returns : goal.returns
returns c = law
