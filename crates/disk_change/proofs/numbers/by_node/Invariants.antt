use Rattle.std.proofs.Common.{◌≡◌, ℕ, take, None}
use Rattle.std.specs.BTreeMap.{get}
use Rattle.std.specs.Option.{unwrap_or}
use Rattle.std.specs.Ordering.{nat_cmp}
use Rattle.disk_change.specs.Numbered.{number_in}
use Rattle.disk_change.proofs.numbers.by_node.Given as goal

abbrev pub invariant-loop-one : goal.invariant-loop-one
invariant-loop-one l = (node : ℕ) → unwrap_or (get nat_cmp l.map node) None ≡ number_in (take l.one-index l.numbers) node
