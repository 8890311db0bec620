use Rattle.std.proofs.Common.{◌≡◌, ◌*◌, map, reverse, drop}
use Rattle.std.specs.List.{range_with_len}
use Rattle.disk_change.specs.Directory.{block_added}
use Rattle.disk_change.proofs.directory.blocks_behind.Given as goal

abbrev pub invariant-loop-place : goal.invariant-loop-place
invariant-loop-place l = record {
  blocks : l.blocks.items ≡ map (block_added (reverse l.fn.waiting.items)) (range_with_len 0 l.place);
  left : reverse l.waiting.items ≡ drop (15 * l.place) (reverse l.fn.waiting.items);
}
