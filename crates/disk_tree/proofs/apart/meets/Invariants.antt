use Rattle.std.specs.Prelude.{slice_index}
use Rattle.disk_tree.specs.Apart.{MarksEach}
use Rattle.disk_tree.proofs.apart.meets.Given as goal

abbrev pub invariant-loop-pointer : goal.invariant-loop-pointer
invariant-loop-pointer l = MarksEach l.initial.held l.held (slice_index l.pointers) l.pointer-index
