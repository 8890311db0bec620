use Rattle.std.proofs.Common.{◌≡◌, ◌++◌, take, map}
use Rattle.disk_change.specs.Parts.{HavePatches, seat_in}
use Rattle.disk_change.specs.Planned.{seated_entering}
use Rattle.disk_change.specs.Seated.{changes_in}
use Rattle.disk_change.proofs.change.parts_of.Given as goal

abbrev pub invariant-loop-one : goal.invariant-loop-one
invariant-loop-one l = record {
  seats : map (seat_in l.old.items) l.seats.items
      ≡ map (seat_in l.old.items) l.initial.seats.items
      ++ map (seated_entering (changes_in l.plans.directories l.plans.nets.items l.plans.files.items)) (take l.one-index l.enter.items);
  patches : HavePatches l.old.items l.plans.nets.items l.seats.items;
}
