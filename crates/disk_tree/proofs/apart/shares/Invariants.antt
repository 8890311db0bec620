use Rattle.std.proofs.Common.{◌+◌, ◌*◌}
use Rattle.block_map.specs.Kept.{pointer_kept}
use Rattle.disk_tree.specs.Apart.{MarksEach}
use Rattle.disk_tree.proofs.apart.shares.Given as goal

abbrev pub invariant-loop-place : goal.invariant-loop-place
invariant-loop-place l = MarksEach l.fn.held l.held (pointer_kept l.inode l.tables.items) (108 + 1024 * l.place)
