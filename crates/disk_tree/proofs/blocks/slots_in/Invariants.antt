use Rattle.std.proofs.Common.{◌≡◌, map, false}
use Rattle.std.specs.List.{list_any}
use Rattle.sfs_image.specs.SlotBlock.{slots_of}
use Rattle.disk_tree.specs.Blocks.{blocks_in, is_malformed}
use Rattle.disk_tree.proofs.blocks.slots_in.Given as goal

abbrev pub invariant-loop-n : goal.invariant-loop-n
invariant-loop-n l = record {
  slots : l.list.items ≡ map slots_of (blocks_in l.n l.bytes);
  keep : list_any is_malformed (blocks_in l.n l.bytes) ≡ false;
}
