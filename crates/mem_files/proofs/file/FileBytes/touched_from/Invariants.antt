use Rattle.std.proofs.Common.{◌≡◌, filter_map}
use Rattle.std.specs.List.{range_with_len}
use Rattle.mem_files.specs.TouchedFrom.{touched_at}
use Rattle.mem_files.proofs.file.FileBytes.touched_from.Given as goal

abbrev pub invariant-loop-block : goal.invariant-loop-block
invariant-loop-block l = l.blocks.items ≡ filter_map (touched_at l.cut.0 l.self) (range_with_len 0 l.block)
