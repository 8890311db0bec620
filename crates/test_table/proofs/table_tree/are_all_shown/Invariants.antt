use Rattle.std.proofs.Common.{◌<◌, ℕ, length, get_or}
use Rattle.stamp_table.specs.Table.{IsBetweenCalls, IsSameCore}
use Rattle.test_table.proofs.table_tree.are_all_shown.Given as goal

abbrev pub invariant-loop-core : goal.invariant-loop-core
invariant-loop-core g l = (place : ℕ) (d : _) → place < length l.initial.cores → IsSameCore (get_or l.initial.cores place d) (get_or l.cores place d)
    × IsBetweenCalls l.shared (get_or l.cores place d)
