use Rattle.std.proofs.Common.{ℕ, take, filter, Contains}
use Rattle.std.specs.Prelude.{◌↔◌, ◌⊎◌}
use Rattle.disk_change.specs.GivenUp.{IsLeftByGone}
use Rattle.disk_change.specs.Planned.{has_listed_node}
use Rattle.disk_change.proofs.given_up.blocks_left.Given as goal

abbrev pub invariant-loop-entry : goal.invariant-loop-entry
invariant-loop-entry l = (block : ℕ)
    → Contains l.blocks.items block ↔ (Contains l.fn.freed.items block ⊎ IsLeftByGone (filter (has_listed_node l.leaving) (take l.entry-index l.old)) block)
