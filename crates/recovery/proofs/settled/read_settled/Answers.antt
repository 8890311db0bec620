-- The newest records are the settled ones.
use Rattle.std.proofs.Common.{ap}
use Rattle.recovery.proofs.SettledRead.{settled_are}
use Rattle.recovery.proofs.settled.read_settled.Goals as goal

pub returns-clause-ok : goal.returns-clause-ok
returns-clause-ok g c = λ image told.
    let were = c.in_ok-journals.ensures.ok image told in
    record {
      super = were.super;
      layout_is = were.layout_is;
      journals = were.journals;
      records = settled_are image c.in_ok-journals.journals _ were (ap (λ list. list.items) c.from_vec.ensures);
    }
