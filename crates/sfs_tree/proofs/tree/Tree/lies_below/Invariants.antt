use Rattle.std.proofs.Common.{◌≡◌, true, nat_eq}
use Rattle.std.specs.List.{list_any}
use Rattle.tree_laws.specs.Tree.{is_directory, walk_up, lies_below}
use Rattle.sfs_tree.proofs.tree.Tree.lies_below.Given as goal

abbrev pub invariant-loop-steps : goal.invariant-loop-steps
invariant-loop-steps l = record {
  directory : is_directory l.self l.place ≡ true;
  rest : list_any (λ above. nat_eq above l.fn.directory.0) (walk_up l.steps l.self l.place) ≡ lies_below l.self l.fn.node.0 l.fn.directory.0;
}

abbrev pub decreases-loop-steps : goal.decreases-loop-steps
decreases-loop-steps l = l.steps
