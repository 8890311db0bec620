use Rattle.std.proofs.Common.{◌≡◌, ◌<◌, ◌≤◌, ℕ, None}
use Rattle.std.specs.FinMap.{get}
use Rattle.sfs_tree.proofs.nodes.Nodes.next_from.Given as goal

abbrev pub invariant-loop-place : goal.invariant-loop-place
invariant-loop-place l = (other : ℕ) → l.first ≤ other → other < l.place → get l.self.nodes other ≡ None
