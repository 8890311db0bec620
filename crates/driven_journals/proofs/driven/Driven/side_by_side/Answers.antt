use Rattle.std.proofs.Common.{◌∙◌, ap, length, subst}
use Rattle.std.specs.Prelude.{List}
use Rattle.driven_journals.specs.declared.seat.Seat.{Seat}
use Rattle.driven_journals.specs.Seats.{EachGoes}
use Rattle.driven_journals.proofs.Cores.{driven_gone}
use Rattle.driven_journals.proofs.driven.Driven.side_by_side.Goals as goal

pub returns : goal.returns
returns g c = record {
  driven = driven_gone c.args.self.now c.commit_each.new.seats (c.commit_each.ensures.count ∙ ap length c.as_mut_slice.ensures.value)
      (subst (λ (l : List (Seat g.row.D.Denot)). EachGoes c.args.self.now.set c.args.self.now.layout l c.commit_each.new.seats)
      c.as_mut_slice.ensures.value c.commit_each.ensures.each) c.requires.driven;
}
