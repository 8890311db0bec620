use Rattle.std.proofs.Common.{◌≡◌, ℕ, ◌<◌, get_or, None, false}
use Rattle.disk_change.specs.Directory.{is_in_net}
use Rattle.disk_change.proofs.block.has_name.Given as goal

abbrev pub invariant-loop-place : goal.invariant-loop-place
invariant-loop-place l = (k : ℕ) → k < l.place → is_in_net l.net (get_or l.block k None) ≡ false
