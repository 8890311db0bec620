use Rattle.std.proofs.Common.{ℕ, [], take, Contains}
use Rattle.std.specs.Prelude.{◌↔◌, ◌⊎◌}
use Rattle.disk_change.specs.GivenUp.{IsLeftByGone}
use Rattle.disk_change.proofs.given_up.held_blocks.Given as goal

abbrev pub invariant-loop-entry : goal.invariant-loop-entry
invariant-loop-entry l = (block : ℕ) → Contains l.blocks.items block ↔ (Contains {X = ℕ} [] block ⊎ IsLeftByGone (take l.entry-index l.old.items) block)
