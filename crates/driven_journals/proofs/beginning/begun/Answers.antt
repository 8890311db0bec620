use Rattle.driven_journals.proofs.Cores.{new_fit, new_pens, some_new}
use Rattle.driven_journals.proofs.beginning.begun.Goals as goal

pub returns : goal.returns
returns g c =
    let new = c.in-Ok.ensures.pens in
    let are = c.seats_of-seats.ensures in
    let t = c.in-Ok.set in
    let layout = c.args.layout in
    let pens = c.in-Ok.pens.items in
    let seats = c.seats_of-seats.result.items in
    record {
      all = new_pens t pens seats are new.all;
      some = some_new t layout pens seats new are c.in-Ok.ensures.key.layout_is c.requires.layout.ranges.cores_low;
      each = new_fit t layout pens seats new are c.in-Ok.ensures.key.layout_is;
    }
