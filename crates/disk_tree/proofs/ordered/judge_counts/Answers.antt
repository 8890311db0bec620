use Rattle.std.proofs.Common.{[], arith}
use Rattle.disk_tree.proofs.RulesOrdered.{breaks_at, more_kept}
use Rattle.disk_tree.proofs.ordered.judge_counts.Goals as goal

pub returns-in-Some-clause-bad : goal.returns-in-Some-clause-bad
returns-in-Some-clause-bad c =
    breaks_at c.args.inodes.now c.args.rows.now 12 c.in-Some.inode (omega arith) (omega arith) (c.requires.before []) c.in-Some.ensures

pub returns-in-Some-first_with_wrong_links-clause-bad : goal.returns-in-Some-first_with_wrong_links-clause-bad
returns-in-Some-first_with_wrong_links-clause-bad c =
    breaks_at c.args.inodes.now c.args.rows.now 13 c.in-Some-first_with_wrong_links.inode (omega arith) (omega arith)
    (more_kept c.args.inodes.now c.args.rows.now [] 12 (c.requires.before []) c.in_default.ensures) c.in-Some-first_with_wrong_links.ensures
