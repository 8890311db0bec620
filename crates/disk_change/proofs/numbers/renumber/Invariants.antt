use Rattle.std.proofs.Common.{◌≡◌, ◌++◌, take, drop, map, None}
use Rattle.std.specs.BTreeMap.{get}
use Rattle.std.specs.Option.{unwrap_or}
use Rattle.std.specs.Ordering.{nat_cmp}
use Rattle.disk_change.specs.Numbered.{slot_numbered}
use Rattle.disk_change.proofs.numbers.renumber.Given as goal

abbrev pub invariant-loop-place : goal.invariant-loop-place
invariant-loop-place l =
    l.block ≡ map (slot_numbered (λ node. unwrap_or (get nat_cmp l.numbers node) None) l.net) (take l.place l.fn.block) ++ drop l.place l.fn.block
