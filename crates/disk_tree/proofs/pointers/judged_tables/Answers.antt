use Rattle.std.proofs.Common.{◌∙◌, sym, subst, false, rules}
use Rattle.disk_tree.specs.Pointers.{AreJudgedTables}
use Rattle.disk_tree.proofs.PointersJudged.{free_judged, record_judged, indirect_within}
use Rattle.disk_tree.proofs.pointers.judged_tables.Goals as goal

pub returns-then-inode-eq0-clause-ok : goal.returns-then-inode-eq0-clause-ok
returns-then-inode-eq0-clause-ok g c =
    subst (AreJudgedTables _ c.args.layout.now c.args.inode.now false) (sym c.new.ensures)
    (free_judged _ c.args.layout.now c.args.inode.now c.requires.inode (search rules))

pub returns-then-record_breaks-clause-ok : goal.returns-then-record_breaks-clause-ok
returns-then-record_breaks-clause-ok g c =
    record_judged _ c.args.layout.now c.args.inode.now c.requires.inode (search rules) (sym c.record_breaks.ensures ∙ c.if-record_breaks.true)

pub read_tables-requires-after_bounds : goal.read_tables-requires-after_bounds
read_tables-requires-after_bounds g c κs within =
    indirect_within _ c.args.layout.now c.args.inode.now c.requires.layout c.requires.inode (sym c.record_breaks.ensures ∙ c.if-record_breaks.false)
