use Rattle.std.proofs.Common.{◌≡◌, true, map, ◌++◌}
use Rattle.std.specs.FinMap.{len}
use Rattle.tree_laws.specs.NameRow.{node_number}
use Rattle.tree_laws.specs.Tree.{is_directory, walk_up}
use Rattle.sfs_tree.proofs.tree.Tree.above.Given as goal

abbrev pub invariant-loop-steps : goal.invariant-loop-steps
invariant-loop-steps l = record {
  directory : is_directory l.self l.place ≡ true;
  rest : map node_number l.above.items ++ walk_up l.steps l.self l.place ≡ walk_up (len l.self.rows) l.self l.fn.dir.0;
}

abbrev pub decreases-loop-steps : goal.decreases-loop-steps
decreases-loop-steps l = l.steps
