use Rattle.std.proofs.Common.{◌∙◌, Err, Ok}
use Rattle.fsync_commit.specs.Coming.{committed}
use Rattle.fsync_commit.proofs.Came.{back, lands}
use Rattle.fsync_commit.proofs.granted.commit_built.Goals as goal

pub returns-in-Ok-clause-comes : goal.returns-in-Ok-clause-comes
returns-in-Ok-clause-comes g c = λ change of.
    committed (Ok c.in-Ok.ack) (record {
      tx = c.args.built.tx;
      is = of.tx;
      some = c.requires.can.some;
      comes = c.in-Ok.ensures.comes;
      tells = c.in-Ok.ensures.tells;
      cause = tt;
    })
    (lands change c.args.grant c.args.built c.in-Ok.ack of)

pub returns-in-Err-clause-comes : goal.returns-in-Err-clause-comes
returns-in-Err-clause-comes g c = λ change of.
    committed (Err c.in-Err.fault) (record {
      tx = c.args.built.tx;
      is = of.tx;
      some = c.requires.can.some;
      comes = c.in-Err.ensures.comes;
      tells = c.in-Err.ensures.tells;
      cause = c.in-Err.ensures.cause;
    })
    (back change c.in-Err.fault c.refusal.result c.into_old.result c.refusal.ensures (c.into_old.ensures ∙ of.old))
