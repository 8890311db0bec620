use Rattle.std.proofs.Common.{ap}
use Rattle.test_table.proofs.table_calls.begun.begun_tree.Goals as goal

pub loop-node-init : goal.loop-node-init
loop-node-init g c = record {
  built = c.in_ok-tree.ensures.built;
  first = ap (λ t. t.first) c.in_ok-tree.ensures.tree;
  share = ap (λ t. t.share) c.in_ok-tree.ensures.tree;
  made = c.in_ok-tree.ensures.made;
}
