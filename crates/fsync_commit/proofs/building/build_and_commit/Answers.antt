use Rattle.std.proofs.Common.{◌∙◌, sym, subst, ap}
use Rattle.sfs_image.specs.Super.{Layout}
use Rattle.slot_laws.specs.Labels.{fsync_told}
use Rattle.disk_box.specs.Pens.{PenHand}
use Rattle.fsync_commit.specs.Asked.{CommitRequest}
use Rattle.fsync_commit.specs.Coming.{numbered, unnumbered}
use Rattle.fsync_commit.specs.Granting.{IsGrantOn}
use Rattle.fsync_commit.proofs.Built.{grant_on}
use Rattle.fsync_commit.proofs.Came.{back, need_is, numbers, unnumbers}
use Rattle.fsync_commit.proofs.building.build_and_commit.Goals as goal

pub build_granted-requires-clause-grant : goal.build_granted-requires-clause-grant
build_granted-requires-clause-grant g c κs within =
    let asked : CommitRequest = record { flush = fsync_told c.args.fsync.node c.args.fsync.stamp; seen = c.args.seen.now; change = c.args.change } in
    let need = need_is c.args.change c.need.result c.need.ensures.inodes c.need.ensures.blocks in
    let has = numbers asked c.args.pen.now c.reserve.new.pen c.need.result need c.in-Ok.grant c.in-Ok.ensures.goes c.in-Ok.ensures.comes c.in-Ok.ensures.tells in
    subst (λ (layout : Layout). IsGrantOn layout c.args.change c.in-Ok.grant)
    (sym (ap (λ (h : PenHand g.row.D.Denot). h.table.given.layout) c.in-Ok.ensures.goes.frame))
    (grant_on asked c.args.pen.now c.reserve.new.pen c.in-Ok.grant has.goes has.comes c.requires.space c.requires.change)

pub returns-in-Ok-clause-comes : goal.returns-in-Ok-clause-comes
returns-in-Ok-clause-comes g c =
    let asked : CommitRequest = record { flush = fsync_told c.args.fsync.node c.args.fsync.stamp; seen = c.args.seen.now; change = c.args.change } in
    let need = need_is c.args.change c.need.result c.need.ensures.inodes c.need.ensures.blocks in
    numbered c.reserve.new.pen c.in-Ok.grant
    (numbers asked c.args.pen.now c.reserve.new.pen c.need.result need c.in-Ok.grant c.in-Ok.ensures.goes c.in-Ok.ensures.comes c.in-Ok.ensures.tells)
    c.build_granted.ensures.comes

pub returns-in-Err-clause-comes : goal.returns-in-Err-clause-comes
returns-in-Err-clause-comes g c =
    let asked : CommitRequest = record { flush = fsync_told c.args.fsync.node c.args.fsync.stamp; seen = c.args.seen.now; change = c.args.change } in
    let need = need_is c.args.change c.need.result c.need.ensures.inodes c.need.ensures.blocks in
    unnumbered c.in-Err.fault
    (unnumbers asked c.args.pen.now c.reserve.new.pen c.need.result need c.in-Err.fault c.in-Err.ensures.comes c.in-Err.ensures.tells)
    (back c.args.change c.in-Err.fault c.refusal.result c.into_old.result c.refusal.ensures c.into_old.ensures)
