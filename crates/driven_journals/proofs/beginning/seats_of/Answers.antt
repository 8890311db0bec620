use Rattle.std.proofs.Common.{rules, ◌≡◌, ◌∷◌, ◌++◌, ◌∙◌, All, List, ap, map, refl, sym, subst}
use Rattle.driven_journals.specs.declared.due.Due.TheVariants as due
use Rattle.driven_journals.specs.declared.seat.Seat.{Seat}
use Rattle.driven_journals.specs.Seats.{pen_of}
use Rattle.driven_journals.proofs.Cores.{pens_on, rests_more}
use Rattle.driven_journals.proofs.beginning.seats_of.Goals as goal

pub loop-pen-preserved : goal.loop-pen-preserved
loop-pen-preserved g c =
    let left : c.loop-pen.pen-iterator.rest.items ≡ c.in-Some.pen ∷ c.next.new.self.rest.items = search rules in
    record {
      room = search rules;
      made = ap (λ (l : List (Seat g.row.D.Denot)). map pen_of l ++ c.next.new.self.rest.items) c.push_reserved.ensures.items
          ∙ (pens_on c.loop-pen.seats.items _ c.next.new.self.rest.items
          ∙ (ap (λ l. map pen_of c.loop-pen.seats.items ++ l) (sym left) ∙ c.loop-pen.invariant.made));
      rest = subst (λ (l : List (Seat g.row.D.Denot)). All (λ (seat : Seat g.row.D.Denot). seat.due ≡ due.Rests) l) (sym c.push_reserved.ensures.items)
          (rests_more c.loop-pen.seats.items _ c.loop-pen.invariant.rest refl);
    }
