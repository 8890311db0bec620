use Rattle.disk_tree.proofs.PartsShown.{read_parts_show_rows as law}
use Rattle.disk_tree.proofs.laws.read_parts_show_rows.Goals as goal

pub returns : goal.returns
returns c = law
