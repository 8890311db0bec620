use Rattle.std.proofs.Common.{◌≡◌, [], take, map}
use Rattle.disk_change.specs.Numbered.{numbers_given, grant_behind}
use Rattle.disk_change.specs.Parts.{seat_with}
use Rattle.disk_change.proofs.numbers.numbers_of_seats.Given as goal

abbrev pub invariant-loop-seat : goal.invariant-loop-seat
invariant-loop-seat l = record {
  numbers : l.numbers.items ≡ numbers_given (map (seat_with []) (take l.seat-index l.seats)) l.grant;
  left : l.left ≡ grant_behind (map (seat_with []) (take l.seat-index l.seats)) l.grant;
}
