use Rattle.std.proofs.Common.{[], arith}
use Rattle.disk_tree.proofs.RulesOrdered.{few_named, rows_within}
use Rattle.disk_tree.proofs.ordered.judged_naming.Goals as goal

pub count_named-requires-clause-within : goal.count_named-requires-clause-within
count_named-requires-clause-within c = λ i less. rows_within c.args.inodes.now c.args.rows.now (c.in_ok-judge_rows.ensures.ok []) i (omega arith)

pub count_named-requires-clause-few : goal.count_named-requires-clause-few
count_named-requires-clause-few c = few_named c.args.rows.now c.requires.short (omega arith)
