use Rattle.std.proofs.Common.{◌≡◌, ◌+◌, ◌≤◌, ◌++◌, length, map}
use Rattle.std.specs.Vec.{vec_capacity}
use Rattle.driven_journals.specs.Seats.{pen_of}
use Rattle.driven_journals.proofs.driven.parts_of.Given as goal

abbrev pub invariant-loop-seat : goal.invariant-loop-seat
invariant-loop-seat g l = record {
  room : length l.pens.items + length l.seat-iterator.rest.items ≤ vec_capacity l.pens;
  books_room : length l.books.items + length l.seat-iterator.rest.items ≤ vec_capacity l.books;
  made : l.pens.items ++ map pen_of l.seat-iterator.rest.items ≡ map pen_of l.fn.seats.items;
}
