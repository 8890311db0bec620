use Rattle.std.proofs.Common.{◌≡◌, ◌-◌, take, filter, length}
use Rattle.mem_cells.specs.Part.{changes_kept}
use Rattle.log_merge.specs.Merge.{is_under}
use Rattle.log_merge.proofs.merging.own_changes.Given as goal

abbrev pub invariant-loop-change : goal.invariant-loop-change
invariant-loop-change l = record {
  front : l.own.items ≡ take (length l.own.items) (changes_kept l.part l.dir.0);
  below : filter (is_under l.below.0) l.own.items ≡ l.own.items;
}

abbrev pub decreases-loop-change : goal.decreases-loop-change
decreases-loop-change l = length (changes_kept l.part l.dir.0) - length l.own.items
