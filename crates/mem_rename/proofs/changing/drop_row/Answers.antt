use Rattle.std.proofs.Common.{sym, ◌∙◌}
use Rattle.mem_rename.proofs.RowsBack.{absent_seen}
use Rattle.mem_rename.proofs.changing.drop_row.Goals as goal

pub returns-else-is_some : goal.returns-else-is_some
returns-else-is_some c = absent_seen c.args.rows.now c.args.name.now c.get.result c.get.ensures (sym c.is_some.ensures ∙ c.if-is_some.false)
