use Rattle.std.proofs.Common.{◌≡◌, ◌<◌, ℕ, true}
use Rattle.std.specs.Prelude.{slice_index_or}
use Rattle.driven_journals.specs.Due.{is_at_rest}
use Rattle.driven_journals.specs.declared.seat.Seat.{Seat}
use Rattle.driven_journals.proofs.driven.are_at_rest.Given as goal

abbrev pub invariant-loop-seat : goal.invariant-loop-seat
invariant-loop-seat g l = (k : ℕ) (d : Seat g.row.D.Denot) → k < l.seat-index → is_at_rest (slice_index_or l.seats k d).due ≡ true
