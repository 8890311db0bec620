use Rattle.std.proofs.Common.{◌∙◌, Err, Ok}
use Rattle.slot_laws.specs.Nodes.{no_numbers}
use Rattle.fsync_commit.specs.Coming.{settled}
use Rattle.fsync_commit.proofs.Came.{back, lands}
use Rattle.fsync_commit.proofs.building.end_empty.Goals as goal

pub returns-in-Ok-clause-comes : goal.returns-in-Ok-clause-comes
returns-in-Ok-clause-comes g c = λ change nothing of none.
    settled (Ok c.in-Ok.ack) (record {
      tx = c.args.built.tx;
      is = of.tx;
      none = none;
      nothing = nothing;
      comes = c.in-Ok.ensures.comes;
      tells = c.in-Ok.ensures.tells;
    })
    (lands change no_numbers c.args.built c.in-Ok.ack of)

pub returns-clause-comes : goal.returns-clause-comes
returns-clause-comes g c = λ change nothing of none.
    settled (Err c.in-Err.fault) (record {
      tx = c.args.built.tx;
      is = of.tx;
      none = none;
      nothing = nothing;
      comes = c.in-Err.ensures.comes;
      tells = c.in-Err.ensures.tells;
    })
    (back change c.in-Err.fault c.refusal.result c.into_old.result c.refusal.ensures (c.into_old.ensures ∙ of.old))
