use Rattle.std.proofs.Common.{◌≡◌, ℕ, take, map, Contains}
use Rattle.std.specs.Prelude.{◌↔◌, None}
use Rattle.std.specs.Ordering.{nat_cmp}
use Rattle.std.specs.BTreeMap.{get}
use Rattle.std.specs.List.{flat_map}
use Rattle.std.specs.Option.{unwrap_or}
use Rattle.disk_change.specs.AllBuilt.{nodes_built as built_of_seats, fresh_of_node}
use Rattle.disk_change.specs.GivenUp.{IsLeftBySeat}
use Rattle.disk_change.specs.Parts.{CanAllBePut, built_in, seat_in}
use Rattle.disk_change.specs.Seated.{changes_in}
use Rattle.disk_change.proofs.BuiltNodes.{fresh_behind}
use Rattle.disk_change.proofs.all_built.nodes_built.Given as goal

abbrev pub invariant-loop-seat : goal.invariant-loop-seat
invariant-loop-seat l = record {
  nodes : map (built_in l.old.items) l.nodes.items
      ≡ built_of_seats (changes_in l.plans.directories l.plans.nets.items l.plans.files.items)
      (λ node. unwrap_or (get nat_cmp l.numbers node) None) (map (seat_in l.old.items) (take l.seat-index l.seats)) l.fresh;
  written : l.written.items ≡ flat_map (fresh_of_node l.plans.files.items) (map (built_in l.old.items) l.nodes.items);
  left : l.left ≡ fresh_behind (map (seat_in l.old.items) (take l.seat-index l.seats)) l.fresh;
  freed : (block : ℕ) → Contains l.freed.items block ↔ IsLeftBySeat (map (seat_in l.old.items) (take l.seat-index l.seats)) block;
  put : CanAllBePut l.old.items l.nodes.items;
}
