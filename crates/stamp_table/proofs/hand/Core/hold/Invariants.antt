use Rattle.std.proofs.Common.{◌≡◌, ◌≤◌, length, drop}
use Rattle.stamp_table.specs.Hand.{Hand}
use Rattle.stamp_table.specs.Ascending.{AreBelow, RiseAbove}
use Rattle.stamp_table.specs.Table.{HoldsAll}
use Rattle.stamp_table.proofs.hand.Core.hold.Given as goal

abbrev pub invariant-loop-place : goal.invariant-loop-place
invariant-loop-place g l = record {
  table : l.self.table ≡ l.initial.self.table;
  cells : AreBelow l.shared.table.id.slots (drop l.place-index l.places);
  above : RiseAbove l.self.view.held (drop l.place-index l.places);
  room : length (drop l.place-index l.places) ≤ l.self.room;
  rest : (after : Hand g.row.C.Denot g.row.X.Denot g.row.G.Denot)
      → HoldsAll (g.M.Meaning.lawful l.shared.table.given) (g.M.Meaning.stands l.shared.table.given) (drop l.place-index l.places) l.self after
      → HoldsAll (g.M.Meaning.lawful l.shared.table.given) (g.M.Meaning.stands l.shared.table.given) l.places l.initial.self after;
}
