use Rattle.std.proofs.Common.{◌≡◌, ◌++◌, take, drop, reverse}
use Rattle.disk_change.specs.Directory.{fill_front, rows_left}
use Rattle.disk_change.proofs.block.fill.Given as goal

abbrev pub invariant-loop-place : goal.invariant-loop-place
invariant-loop-place l = record {
  block : l.block ≡ fill_front (take l.place l.fn.block) (reverse l.fn.waiting.items) ++ drop l.place l.fn.block;
  left : reverse l.waiting.items ≡ rows_left (take l.place l.fn.block) (reverse l.fn.waiting.items);
}
