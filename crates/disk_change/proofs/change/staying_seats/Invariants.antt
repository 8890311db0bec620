use Rattle.std.proofs.Common.{◌≡◌, take, map, filter, not}
use Rattle.disk_change.specs.Parts.{HavePatches, seat_in}
use Rattle.disk_change.specs.Planned.{seated_old, has_listed_node}
use Rattle.disk_change.specs.Seated.{changes_in}
use Rattle.disk_change.proofs.change.staying_seats.Given as goal

abbrev pub invariant-loop-entry : goal.invariant-loop-entry
invariant-loop-entry l = record {
  seats : map (seat_in l.old.items) l.seats.items
      ≡ map (seated_old (changes_in l.plans.directories l.plans.nets.items l.plans.files.items))
      (filter (λ entry. not (has_listed_node l.leaving entry)) (take l.entry-index l.old.items));
  patches : HavePatches l.old.items l.plans.nets.items l.seats.items;
}
