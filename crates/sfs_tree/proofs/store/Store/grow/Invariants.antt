use Rattle.std.proofs.Common.{◌≡◌, ◌≤◌, ◌-◌}
use Rattle.sfs_tree.proofs.store.Store.grow.Given as goal

abbrev pub invariant-loop-alloc : goal.invariant-loop-alloc
invariant-loop-alloc l = record {
  rows : l.self.rows ≡ l.initial.self.rows;
  nodes : l.self.nodes ≡ l.initial.self.nodes;
  places : l.initial.self.places ≤ l.self.places;
}

abbrev pub decreases-loop-alloc : goal.decreases-loop-alloc
decreases-loop-alloc l = l.count - l.self.places
