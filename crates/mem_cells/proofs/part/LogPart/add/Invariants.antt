use Rattle.std.proofs.Common.{◌≡◌, ◌≤◌, ◌++◌, ℕ, filter, length}
use Rattle.tree_laws.specs.Logged.{is_logged_in}
use Rattle.mem_cells.specs.Log.{IsInOrder}
use Rattle.mem_cells.specs.Part.{changes_kept, mark_kept, room_kept, StandBehind}
use Rattle.mem_cells.proofs.part.LogPart.add.Given as goal

abbrev pub invariant-loop-change : goal.invariant-loop-change
invariant-loop-change l = record {
  changes : (dir : ℕ)
      → changes_kept l.self dir ++ filter (is_logged_in dir) l.change-iterator.rest.items
      ≡ changes_kept l.initial.self dir ++ filter (is_logged_in dir) l.fn.entry.items;
  marks : (dir : ℕ) → mark_kept l.self dir ≡ mark_kept l.initial.self dir;
  entries : l.self.entries ≡ l.initial.self.entries;
  room : (dir : ℕ) → length (filter (is_logged_in dir) l.change-iterator.rest.items) ≤ room_kept l.self dir;
  order : IsInOrder l.change-iterator.rest.items;
  behind : StandBehind l.change-iterator.rest.items (changes_kept l.self);
}
