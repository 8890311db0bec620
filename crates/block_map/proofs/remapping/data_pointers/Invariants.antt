use Rattle.std.proofs.Common.{◌≡◌, ℕ, ◌<◌, get_or, length, count_by, take}
use Rattle.std.specs.Prelude.{slice_index}
use Rattle.block_map.specs.declared.changed.ChangedBlock.{ChangedBlock}
use Rattle.block_map.specs.Remap.{takes_fresh, pointer_given}
use Rattle.block_map.proofs.remapping.data_pointers.Given as goal

abbrev pub invariant-loop-one : goal.invariant-loop-one
invariant-loop-one l = record {
  taken : l.taken ≡ count_by takes_fresh (take l.one-index l.changed.items);
  count : length l.pointers.items ≡ l.one-index;
  each : (k : ℕ) (d : ChangedBlock) → k < l.one-index
      → slice_index l.pointers.items k ≡ pointer_given l.fresh (get_or l.changed.items k d) (count_by takes_fresh (take k l.changed.items));
}
