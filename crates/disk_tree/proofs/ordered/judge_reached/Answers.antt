use Rattle.std.proofs.Common.{ℕ, ◌<◌, [], sym, subst, arith}
use Rattle.std.specs.Prelude.{slice_index_or}
use Rattle.disk_tree.specs.Rows.{rows_of_inode}
use Rattle.disk_tree.proofs.RulesOrdered.{rows_within}
use Rattle.disk_tree.proofs.ordered.judge_reached.Goals as goal

pub reached-requires-clause-within : goal.reached-requires-clause-within
reached-requires-clause-within c = λ i less k d inside.
    subst (λ (n : ℕ). (slice_index_or (rows_of_inode c.args.rows.now i) k d).inode < n) (sym c.requires.count)
    (rows_within c.args.inodes.now c.args.rows.now (λ earlier j low before within. c.requires.before [] earlier j low (omega arith) within) i
    (omega arith) k d inside)
