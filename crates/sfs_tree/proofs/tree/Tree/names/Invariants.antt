use Rattle.std.proofs.Common.{◌≡◌, List, ℕ, cond, nat_lt, None}
use Rattle.std.specs.FinMap.{get}
use Rattle.sfs_base.specs.Name.{bucket}
use Rattle.sfs_tree.proofs.tree.Tree.names.Given as goal

abbrev pub invariant-loop-number : goal.invariant-loop-number
invariant-loop-number l =
    (name : List ℕ) → get l.names name ≡ cond (nat_lt (bucket name) l.number) (get l.self.rows (l.dir.0, name)) None
