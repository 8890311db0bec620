use Rattle.std.proofs.Common.{◌≡◌, take, map, None}
use Rattle.std.specs.BTreeMap.{get}
use Rattle.std.specs.Option.{unwrap_or}
use Rattle.std.specs.Ordering.{nat_cmp}
use Rattle.disk_change.specs.Numbered.{block_numbered}
use Rattle.disk_change.proofs.Patches.{placed_by}
use Rattle.disk_change.proofs.node_built.patch_numbered.Given as goal

abbrev pub invariant-loop-one : goal.invariant-loop-one
invariant-loop-one l =
    l.changed.items ≡ map (placed_by (block_numbered (λ node. unwrap_or (get nat_cmp l.numbers node) None) l.net)) (take l.one-index l.patch.changed)

abbrev pub invariant-loop-block : goal.invariant-loop-block
invariant-loop-block l = l.further.items ≡ map (block_numbered (λ node. unwrap_or (get nat_cmp l.numbers node) None) l.net) (take l.block-index l.patch.further)
