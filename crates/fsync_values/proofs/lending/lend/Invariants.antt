use Rattle.std.specs.Prelude.{vec_capacity}
use Rattle.std.proofs.Common.{◌≡◌, ◌≤◌, length, take}
use Rattle.fsync_values.specs.Lending.{entries_of}
use Rattle.fsync_values.proofs.Lent.{lent_until}
use Rattle.fsync_values.proofs.lending.lend.Given as goal

abbrev pub invariant-loop-at : goal.invariant-loop-at
invariant-loop-at l = record {
  values : l.values.items ≡ lent_until l.at l.initial.values.items;
  entries : l.entries.items ≡ entries_of (take l.at l.nodes) (take l.at l.initial.values.items);
  few : length l.entries.items ≤ l.at;
  room : length l.nodes ≤ vec_capacity l.entries;
}
