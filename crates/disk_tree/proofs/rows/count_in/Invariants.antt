use Rattle.std.proofs.Common.{◌≤◌, ◌+◌, ℕ}
use Rattle.std.specs.Prelude.{slice_index}
use Rattle.disk_tree.specs.Rows.{CountsNamings}
use Rattle.disk_tree.proofs.rows.count_in.Given as goal

abbrev pub invariant-loop-row : goal.invariant-loop-row
invariant-loop-row l =
    record {
      counts : CountsNamings l.initial.named l.named l.rows l.row-index;
      room : (i : ℕ) → slice_index l.named i ≤ slice_index l.initial.named i + l.row-index;
    }
