use Rattle.std.proofs.Common.{◌∙◌, length, sym}
use Rattle.fsync_commit.proofs.Built.{can_commit}
use Rattle.fsync_commit.proofs.Came.{some_are}
use Rattle.fsync_commit.proofs.granted.build_granted.Goals as goal

pub commit_built-requires-clause-can : goal.commit_built-requires-clause-can
commit_built-requires-clause-can g c κs within =
    can_commit c.args.pen.now.table.given.layout c.args.change c.args.grant c.requires.change c.requires.grant c.in-Ok.built.tx c.in-Ok.ensures.tx
    (some_are (length c.in-Ok.built.tx.records.items) (sym c.is_empty.ensures ∙ c.if-is_empty.false))

pub returns-else-is_empty-clause-comes : goal.returns-else-is_empty-clause-comes
returns-else-is_empty-clause-comes g c =
    let ok = c.in-Ok.ensures in
    c.commit_built.ensures.comes c.args.change (record { tx = ok.tx; old = ok.old; after = ok.after; ascends = ok.ascending })
