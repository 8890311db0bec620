use Rattle.std.proofs.Common.{◌<◌, ◌++◌, ◌∷◌, [], length, sym, ◌∙◌, arith}
use Rattle.disk_change.specs.Parts.{SeatParts}
use Rattle.disk_change.specs.Numbered.{number_given, grant_left}
use Rattle.disk_change.proofs.Numbering.{numbers_more, behind_more}
use Rattle.disk_change.proofs.numbers.numbers_of_seats.Goals as goal

pub loop-seat-preserved : goal.loop-seat-preserved
loop-seat-preserved c =
    let within : c.loop-seat.seat-index < length c.args.seats.now = omega arith in
    let seat : SeatParts = c.seat-item.result in
    let view = c.seat.view_is in
    record {
      numbers =
          c.in_ok-push.ensures.items
          ∙ (λ i. c.loop-seat.invariant.numbers i
          ++ record { node = (view i).node; number = (c.number_given.ensures ∙ (λ j. number_given (view j).number (c.loop-seat.invariant.left j))) i }
          ∷ [])
          ∙ sym (numbers_more c.args.seats.now c.loop-seat.seat-index seat c.args.grant.now within c.seat-item.is);
      left =
          c.grant_left-left.ensures ∙ (λ j. grant_left (view j).number (c.loop-seat.invariant.left j))
          ∙ sym (behind_more c.args.seats.now c.loop-seat.seat-index seat c.args.grant.now within c.seat-item.is);
    }
