use Rattle.std.proofs.Common.{◌≡◌, ℕ}
use Rattle.std.specs.BTreeMap.{get, IsOrdered}
use Rattle.std.specs.List.Sorted.{IsStrictlySortedBy}
use Rattle.std.specs.Map.{keys_of}
use Rattle.std.specs.Ordering.{nat_cmp}
use Rattle.mem_cells.proofs.Logs.{found_past}
use Rattle.mem_cells.proofs.part.copy_logs.Given as goal

abbrev pub invariant-loop-dir : goal.invariant-loop-dir
invariant-loop-dir l = record {
  found : (directory : ℕ) → found_past l.dir-iterator l.copies.entries directory ≡ get nat_cmp l.logs directory;
  ordered : IsStrictlySortedBy nat_cmp (keys_of l.dir-iterator);
  copies_ordered : IsOrdered nat_cmp l.copies;
}
