use Rattle.image_laws.proofs.Tables.{tables_are_rewritten as law}
use Rattle.image_laws.proofs.laws.tables_are_rewritten_where_they_change.Goals as goal

pub returns : goal.returns
returns c = law
