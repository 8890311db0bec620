use Rattle.std.proofs.Common.{◌≡◌, ℕ, true}
use Rattle.std.specs.Prelude.{All}
use Rattle.std.specs.List.Sorted.{IsStrictlySortedBy}
use Rattle.std.specs.Map.{keys_of}
use Rattle.std.specs.Ordering.{nat_cmp}
use Rattle.mem_cells.specs.Part.{log_of, changes_kept, is_after}
use Rattle.mem_cells.proofs.part.LogPart.next_dir.Given as goal

abbrev pub invariant-loop-dir : goal.invariant-loop-dir
invariant-loop-dir l = record {
  left : (directory : ℕ) → is_after l.fn.after directory ≡ true → (log_of l.dir-iterator directory).changes ≡ changes_kept l.self directory;
  ordered : IsStrictlySortedBy nat_cmp (keys_of l.dir-iterator);
  above : All (λ directory. is_after l.fn.after directory ≡ true) (keys_of l.dir-iterator);
}
