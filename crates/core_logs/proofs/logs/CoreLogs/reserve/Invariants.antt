use Rattle.std.proofs.Common.{◌≡◌, ◌≤◌, true, ℕ, take}
use Rattle.std.specs.Prelude.{All}
use Rattle.std.specs.Ordering.{nat_cmp}
use Rattle.std.specs.BTreeSet.{contains}
use Rattle.mem_cells.specs.Part.{room_kept}
use Rattle.core_logs.specs.Logs.{part_of, AreSameChanges}
use Rattle.core_logs.proofs.logs.CoreLogs.reserve.Given as goal

abbrev pub invariant-loop-change : goal.invariant-loop-change
invariant-loop-change l = record {
  same : AreSameChanges l.fn.self l.self;
  room : All (λ change. l.count ≤ room_kept (part_of l.self l.core.0) change.dir.0) (take l.change-index l.change-items);
  listed : All (λ change. contains nat_cmp l.self.directories change.dir.0 ≡ true) (take l.change-index l.change-items);
}
