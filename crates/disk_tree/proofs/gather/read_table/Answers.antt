use Rattle.std.proofs.Common.{rules}
use Rattle.disk_tree.proofs.TablesRead.{next_hole}
use Rattle.disk_tree.proofs.gather.read_table.Goals as goal

pub returns-then-pointer-eq0-clause-ok : goal.returns-then-pointer-eq0-clause-ok
returns-then-pointer-eq0-clause-ok g c = next_hole _ c.args.inode.now c.args.place c.args.tables.now.items (search rules)
