use Rattle.workers.specs.Serving.{MayServe}
use Rattle.workers.proofs.flush_by.FlushByFlush.fsync.Goals as goal

pub returns-clause-adds : goal.returns-clause-adds
returns-clause-adds g c =
    let may : MayServe c.args.self.now.files.now (g.A.Agreement.agrees c.args.self.now.set.now) c.args.core.now c.args.pen.now =
    record { between = c.requires.core; spare = c.requires.spare; room = c.requires.room; agree = c.requires.agrees.0 } in
    ((c.requires.agrees.1 _ _ c.args.node may).1 _ _ _ c.serve.ensures).adds

pub returns-clause-between : goal.returns-clause-between
returns-clause-between g c =
    let may : MayServe c.args.self.now.files.now (g.A.Agreement.agrees c.args.self.now.set.now) c.args.core.now c.args.pen.now =
    record { between = c.requires.core; spare = c.requires.spare; room = c.requires.room; agree = c.requires.agrees.0 } in
    ((c.requires.agrees.1 _ _ c.args.node may).1 _ _ _ c.serve.ensures).between

pub returns-clause-same : goal.returns-clause-same
returns-clause-same g c =
    let may : MayServe c.args.self.now.files.now (g.A.Agreement.agrees c.args.self.now.set.now) c.args.core.now c.args.pen.now =
    record { between = c.requires.core; spare = c.requires.spare; room = c.requires.room; agree = c.requires.agrees.0 } in
    ((c.requires.agrees.1 _ _ c.args.node may).1 _ _ _ c.serve.ensures).same

pub returns-clause-agrees : goal.returns-clause-agrees
returns-clause-agrees g c =
    let may : MayServe c.args.self.now.files.now (g.A.Agreement.agrees c.args.self.now.set.now) c.args.core.now c.args.pen.now =
    record { between = c.requires.core; spare = c.requires.spare; room = c.requires.room; agree = c.requires.agrees.0 } in
    (((c.requires.agrees.1 _ _ c.args.node may).1 _ _ _ c.serve.ensures).agree, c.requires.agrees.1)
