use Rattle.std.proofs.Common.{◌≡◌, ◌<◌, ◌≤◌, ◌-◌, Bool, List, filter_map, All}
use Rattle.std.specs.List.{range_with_len}
use Rattle.block_map.specs.Kept.{pointer_kept}
use Rattle.disk_change.specs.Patched.{TellsTouched, patched}
use Rattle.disk_change.specs.Seat.{block_said}
use Rattle.disk_change.proofs.rewritten.directory_changed.Given as goal

abbrev pub invariant-loop-n : goal.invariant-loop-n
invariant-loop-n l = record {
  items : (touched : List Bool) → TellsTouched l.slots l.patch touched
      → l.changed.items ≡ filter_map (block_said (pointer_kept l.inode l.tables.items) (patched l.patch l.slots) touched) (range_with_len 0 l.n);
  below : All (λ one. one.block < l.n) l.changed.items;
  within : l.n ≤ l.most;
}

abbrev pub decreases-loop-n : goal.decreases-loop-n
decreases-loop-n l = l.most - l.n
