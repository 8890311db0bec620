use Rattle.tree_laws.proofs.Readings.{buckets_make_rows as law}
use Rattle.tree_laws.proofs.laws.buckets_make_rows.Goals as goal

pub returns : goal.returns
returns c = law
